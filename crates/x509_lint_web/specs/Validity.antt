-- The rules on the validity of certificates of TLS servers (TLS BR 6.3.2).
use Rattle.std.specs.Prelude.{◌-◌, ◌*◌, ℕ, Bool, nat_le, nat_lt, List, [], ◌∷◌, codes}
use Rattle.x509_base.specs.CivilTime.{unix_seconds}
use Rattle.x509_base.specs.Time.{date_time_of}
use Rattle.x509_lint.specs.Words.{Certificate}
use Rattle.x509_lint_web.specs.Sentence.{Sentence, from_day, must, should}
use Rattle.x509_lint_web.specs.declared.rule.validity.WebValidityRule.{WebValidityRule}
use Rattle.x509_lint_web.specs.declared.rule.validity.WebValidityRule.TheVariants as rules

-- Both ends belong to the validity, so it has a second more than lie between them. A day has 86,400.
abbrev pub is_longer : ℕ → Certificate → Bool
is_longer days c =
    nat_le (days * 86400) (unix_seconds (date_time_of c.tbs_certificate.validity.not_after) - unix_seconds (date_time_of c.tbs_certificate.validity.not_before))

abbrev pub is_shorter : ℕ → Certificate → Bool
is_shorter days c =
    nat_lt (unix_seconds (date_time_of c.tbs_certificate.validity.not_after) - unix_seconds (date_time_of c.tbs_certificate.validity.not_before)) (days * 86400 - 1)

-- ---- the rules

abbrev pub validity_rules : List WebValidityRule
validity_rules =
    rules.ValidityOver825Days
    ∷ rules.ValidityOver398Days
    ∷ rules.ValidityOver397Days
    ∷ rules.ValidityOver200Days
    ∷ rules.ValidityOver100Days
    ∷ rules.ValidityOver47Days
    ∷ rules.ValidityOver199Days
    ∷ rules.ValidityOver99Days
    ∷ rules.ValidityOver46Days ∷ []

abbrev pub validity_sentence : WebValidityRule → Sentence
validity_sentence rules.ValidityOver825Days =
    must (codes "validity_over_825_days") (codes "6.3.2") (from_day 2018 3 2) (codes "tbsCertificate.validity")
    (λ c v. is_longer 825 c)
validity_sentence rules.ValidityOver398Days =
    must (codes "validity_over_398_days") (codes "6.3.2") (from_day 2020 9 1) (codes "tbsCertificate.validity")
    (λ c v. is_longer 398 c)
validity_sentence rules.ValidityOver397Days =
    should (codes "validity_over_397_days") (codes "6.3.2") (from_day 2020 9 1) (codes "tbsCertificate.validity")
    (λ c v. is_longer 397 c)
validity_sentence rules.ValidityOver200Days =
    must (codes "validity_over_200_days") (codes "6.3.2") (from_day 2026 3 15) (codes "tbsCertificate.validity")
    (λ c v. is_longer 200 c)
validity_sentence rules.ValidityOver100Days =
    must (codes "validity_over_100_days") (codes "6.3.2") (from_day 2027 3 15) (codes "tbsCertificate.validity")
    (λ c v. is_longer 100 c)
validity_sentence rules.ValidityOver47Days =
    must (codes "validity_over_47_days") (codes "6.3.2") (from_day 2029 3 15) (codes "tbsCertificate.validity")
    (λ c v. is_longer 47 c)
validity_sentence rules.ValidityOver199Days =
    should (codes "validity_over_199_days") (codes "6.3.2") (from_day 2026 3 15) (codes "tbsCertificate.validity")
    (λ c v. is_longer 199 c)
validity_sentence rules.ValidityOver99Days =
    should (codes "validity_over_99_days") (codes "6.3.2") (from_day 2027 3 15) (codes "tbsCertificate.validity")
    (λ c v. is_longer 99 c)
validity_sentence rules.ValidityOver46Days =
    should (codes "validity_over_46_days") (codes "6.3.2") (from_day 2029 3 15) (codes "tbsCertificate.validity")
    (λ c v. is_longer 46 c)
