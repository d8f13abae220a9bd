-- The rules on certificates of roots (TLS BR 7.1.2.1, 7.1.2.10.2, 7.1.2.11.2).
use Rattle.std.specs.Prelude.{ℕ, Bool, not, List, [], ◌∷◌, bytes_eq, codes, is_some, None}
use Rattle.std.specs.List.{list_any}
use Rattle.x509_ext.specs.Identifiers.{id_ce}
use Rattle.x509_ext.specs.declared.extension.Extension.{Extension}
use Rattle.x509_lint.specs.Text.{id_at}
use Rattle.x509_lint.specs.Words.{extensions_of, has, passes}
use Rattle.x509_lint_web.specs.Validity.{is_longer, is_shorter}
use Rattle.x509_lint_web.specs.Words.{has_attribute}
use Rattle.x509_lint_web.specs.Sentence.{Sentence, from_day, must, should}
use Rattle.x509_lint_web.specs.declared.rule.root.WebRootRule.{WebRootRule}
use Rattle.x509_lint_web.specs.declared.rule.root.WebRootRule.TheVariants as rules

-- ---- extensions

-- that of SCTs, 1.3.6.1.4.1.11129.2.4.2 (RFC 6962 3.3)
abbrev pub timestamp_list : List ℕ
timestamp_list = 0x2B ∷ 0x06 ∷ 0x01 ∷ 0x04 ∷ 0x01 ∷ 0xD6 ∷ 0x79 ∷ 0x02 ∷ 0x04 ∷ 0x02 ∷ []

-- what a root's certificate may have (TLS BR 7.1.2.1.2), or has a rule of its own for: SKI, KeyUsage, basic constraints, CRLDistributionPoints, certificate
-- policies, AKI, EKU, SCTs
abbrev pub root_extensions : List (List ℕ)
root_extensions = id_ce 14 ∷ id_ce 15 ∷ id_ce 19 ∷ id_ce 31 ∷ id_ce 32 ∷ id_ce 35 ∷ id_ce 37 ∷ timestamp_list ∷ []

abbrev pub is_of_roots : List ℕ → Bool
is_of_roots extension = list_any (λ oid. bytes_eq oid extension) root_extensions

abbrev pub is_other_extension : Extension → Bool
is_other_extension e = not (is_of_roots e.extn_id)

-- ---- the rules

abbrev pub root_rules : List WebRootRule
root_rules =
    rules.RootValidityUnder2922Days
    ∷ rules.RootValidityOver9132Days
    ∷ rules.RootExtendedKeyUsagePresent
    ∷ rules.RootPoliciesPresent
    ∷ rules.RootCrlPointsPresent
    ∷ rules.RootWithoutAuthorityKeyIdentifier
    ∷ rules.RootPathLenPresent
    ∷ rules.RootExtensionOther
    ∷ rules.RootOrganizationalUnitPresent ∷ []

abbrev pub root_sentence : WebRootRule → Sentence
root_sentence rules.RootValidityUnder2922Days =
    must (codes "root_validity_under_2922_days") (codes "7.1.2.1.1") (from_day 2023 9 15) (codes "tbsCertificate.validity")
    (λ c v. is_shorter 2922 c)
root_sentence rules.RootValidityOver9132Days =
    must (codes "root_validity_over_9132_days") (codes "7.1.2.1.1") (from_day 2023 9 15) (codes "tbsCertificate.validity")
    (λ c v. is_longer 9132 c)
root_sentence rules.RootExtendedKeyUsagePresent =
    must (codes "root_extended_key_usage_present") (codes "7.1.2.1.2") None (codes "tbsCertificate.extensions.extKeyUsage")
    (λ c v. has (id_ce 37) (extensions_of c))
root_sentence rules.RootPoliciesPresent =
    should (codes "root_policies_present") (codes "7.1.2.1.2") None (codes "tbsCertificate.extensions.certificatePolicies")
    (λ c v. has (id_ce 32) (extensions_of c))
root_sentence rules.RootCrlPointsPresent =
    should (codes "root_crl_points_present") (codes "7.1.2.11.2") (from_day 2024 3 15) (codes "tbsCertificate.extensions.cRLDistributionPoints")
    (λ c v. has (id_ce 31) (extensions_of c))
root_sentence rules.RootWithoutAuthorityKeyIdentifier =
    should (codes "root_without_authority_key_identifier") (codes "7.1.2.1.2") (from_day 2023 9 15) (codes "tbsCertificate.extensions.authorityKeyIdentifier")
    (λ c v. not (has (id_ce 35) (extensions_of c)))
root_sentence rules.RootPathLenPresent =
    should (codes "root_path_len_present") (codes "7.1.2.1.4") None (codes "tbsCertificate.extensions.basicConstraints")
    (λ c v. passes (λ b. is_some b.path_len_constraint) v.basic_constraints)
root_sentence rules.RootExtensionOther =
    should (codes "root_extension_other") (codes "7.1.2.1.2") (from_day 2023 9 15) (codes "tbsCertificate.extensions")
    (λ c v. list_any is_other_extension (extensions_of c))
root_sentence rules.RootOrganizationalUnitPresent =
    must (codes "root_organizational_unit_present") (codes "7.1.2.10.2") (from_day 2023 9 15) (codes "tbsCertificate.subject")
    (λ c v. has_attribute (id_at 11) c.tbs_certificate.subject)
