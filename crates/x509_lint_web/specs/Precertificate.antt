-- The rules on precertificates, and on certificates of authorities that sign them (TLS BR 7.1.2.4, 7.1.2.9).
use Rattle.std.specs.Prelude.{◌&&◌, ℕ, Bool, not, List, [], ◌∷◌, bytes_eq, codes}
use Rattle.x509_ext.specs.Identifiers.{id_ce}
use Rattle.x509_lint.specs.OtherTypes.{precertificate_poison}
use Rattle.x509_lint.specs.Words.{extensions_of, has, has_critical, has_uncritical}
use Rattle.x509_lint_web.specs.Usage.{precertificate_signing}
use Rattle.x509_lint_web.specs.Words.{has_purpose, is_authority}
use Rattle.x509_lint_web.specs.Sentence.{Sentence, from_day, must}
use Rattle.x509_lint_web.specs.declared.rule.precertificate.WebPrecertificateRule.{WebPrecertificateRule}
use Rattle.x509_lint_web.specs.declared.rule.precertificate.WebPrecertificateRule.TheVariants as rules
use Rattle.x509_lint_web.specs.declared.values.WebValues.{WebValues}

-- the type of lists of SCTs, 1.3.6.1.4.1.11129.2.4.2 (RFC 6962 3.3)
abbrev pub timestamp_list : List ℕ
timestamp_list = 0x2B ∷ 0x06 ∷ 0x01 ∷ 0x04 ∷ 0x01 ∷ 0xD6 ∷ 0x79 ∷ 0x02 ∷ 0x04 ∷ 0x02 ∷ []

-- one of an authority whose EKU is read, and has the purpose of those who sign precertificates
abbrev pub is_signer : WebValues → Bool
is_signer v = is_authority v && has_purpose (λ purpose. bytes_eq purpose precertificate_signing) v

abbrev pub precertificate_rules : List WebPrecertificateRule
precertificate_rules =
    rules.PrecertificateWithTimestamps
    ∷ rules.PrecertificateSignerPurposeOther
    ∷ rules.PrecertificateSignerPurposesCritical
    ∷ rules.PrecertificateSignerKeyUsageNotCritical
    ∷ rules.PrecertificateSignerWithoutPolicies
    ∷ rules.PrecertificateSignerWithoutCrlPoints ∷ []

abbrev pub precertificate_sentence : WebPrecertificateRule → Sentence
precertificate_sentence rules.PrecertificateWithTimestamps =
    must (codes "precertificate_with_timestamps") (codes "7.1.2.9") (from_day 2023 9 15) (codes "tbsCertificate.extensions.signedCertificateTimestampList")
    (λ c v. has precertificate_poison (extensions_of c) && has timestamp_list (extensions_of c))
precertificate_sentence rules.PrecertificateSignerPurposeOther =
    must (codes "precertificate_signer_purpose_other") (codes "7.1.2.4.2") (from_day 2023 9 15) (codes "tbsCertificate.extensions.extKeyUsage")
    (λ c v. is_signer v && has_purpose (λ purpose. not (bytes_eq purpose precertificate_signing)) v)
precertificate_sentence rules.PrecertificateSignerPurposesCritical =
    must (codes "precertificate_signer_purposes_critical") (codes "7.1.2.4.1") (from_day 2023 9 15) (codes "tbsCertificate.extensions.extKeyUsage")
    (λ c v. is_signer v && has_critical (id_ce 37) (extensions_of c))
precertificate_sentence rules.PrecertificateSignerKeyUsageNotCritical =
    must (codes "precertificate_signer_key_usage_not_critical") (codes "7.1.2.4.1") (from_day 2023 9 15) (codes "tbsCertificate.extensions.keyUsage")
    (λ c v. is_signer v && has_uncritical (id_ce 15) (extensions_of c))
precertificate_sentence rules.PrecertificateSignerWithoutPolicies =
    must (codes "precertificate_signer_without_policies") (codes "7.1.2.4.1") (from_day 2023 9 15) (codes "tbsCertificate.extensions.certificatePolicies")
    (λ c v. is_signer v && not (has (id_ce 32) (extensions_of c)))
precertificate_sentence rules.PrecertificateSignerWithoutCrlPoints =
    must (codes "precertificate_signer_without_crl_points") (codes "7.1.2.4.1") (from_day 2023 9 15) (codes "tbsCertificate.extensions.cRLDistributionPoints")
    (λ c v. is_signer v && not (has (id_ce 31) (extensions_of c)))
