-- The rules on the fields of a certificate (RFC 5280 4.1): what breaks each, their order, and how each is told.
use Rattle.std.specs.Prelude.{◌&&◌, ◌||◌, ℤ, pos, negsuc, Bool, true, false, not, nat_lt, List, [], ◌∷◌, length, codes, is_some}
use Rattle.x509_cert.specs.declared.certificate.version.Version.{Version}
use Rattle.x509_cert.specs.declared.certificate.version.Version.TheVariants.{V1, V2, V3}
use Rattle.x509_prim.specs.Integer.{integer_value}
use Rattle.x509_lint.specs.Words.{Certificate, is_before, is_early_general, is_empty}
use Rattle.x509_lint.specs.declared.facts.CertificateFacts.{CertificateFacts}
use Rattle.x509_lint.specs.declared.rule.field.FieldRule.{FieldRule}
use Rattle.x509_lint.specs.declared.rule.field.FieldRule.TheVariants as rules
use Rattle.x509_lint.specs.Sentence.{Sentence, must, should}

abbrev pub is_v1 : Version → Bool
is_v1 V1 = true
is_v1 V2 = false
is_v1 V3 = false

abbrev pub is_v3 : Version → Bool
is_v3 V1 = false
is_v3 V2 = false
is_v3 V3 = true

abbrev pub is_positive : ℤ → Bool
is_positive (pos n) = nat_lt 0 n
is_positive (negsuc n) = false

abbrev pub has_unique_identifier : Certificate → Bool
has_unique_identifier c = is_some c.tbs_certificate.issuer_unique_id || is_some c.tbs_certificate.subject_unique_id

-- ---- the rules, in their order

abbrev pub field_rules : List FieldRule
field_rules =
    rules.SignatureAlgorithmsDiffer
    ∷ rules.ExtensionsWithoutV3
    ∷ rules.VersionAboveV2
    ∷ rules.VersionAboveV1
    ∷ rules.SerialNumberNotPositive
    ∷ rules.SerialNumberTooLong
    ∷ rules.IssuerEmpty
    ∷ rules.NotBeforeNotUtcTime
    ∷ rules.NotAfterNotUtcTime
    ∷ rules.NotAfterBeforeNotBefore
    ∷ rules.UniqueIdentifierInV1
    ∷ rules.UniqueIdentifierPresent ∷ []

abbrev pub field_sentence : FieldRule → Sentence Certificate CertificateFacts
field_sentence rules.SignatureAlgorithmsDiffer =
    must (codes "signature_algorithms_differ") (codes "4.1.1.2") (codes "signatureAlgorithm")
    (λ c facts. facts.algorithms_differ)
field_sentence rules.ExtensionsWithoutV3 =
    must (codes "extensions_without_v3") (codes "4.1.2.1") (codes "tbsCertificate.version")
    (λ c facts. is_some c.tbs_certificate.extensions && not (is_v3 c.tbs_certificate.version))
field_sentence rules.VersionAboveV2 =
    should (codes "version_above_v2") (codes "4.1.2.1") (codes "tbsCertificate.version")
    (λ c facts. has_unique_identifier c && not (is_some c.tbs_certificate.extensions) && is_v3 c.tbs_certificate.version)
field_sentence rules.VersionAboveV1 =
    should (codes "version_above_v1") (codes "4.1.2.1") (codes "tbsCertificate.version")
    (λ c facts. not (has_unique_identifier c) && not (is_some c.tbs_certificate.extensions) && not (is_v1 c.tbs_certificate.version))
field_sentence rules.SerialNumberNotPositive =
    must (codes "serial_number_not_positive") (codes "4.1.2.2") (codes "tbsCertificate.serialNumber")
    (λ c facts. not (is_positive (integer_value c.tbs_certificate.serial_number)))
field_sentence rules.SerialNumberTooLong =
    must (codes "serial_number_too_long") (codes "4.1.2.2") (codes "tbsCertificate.serialNumber")
    (λ c facts. nat_lt 20 (length c.tbs_certificate.serial_number))
field_sentence rules.IssuerEmpty =
    must (codes "issuer_empty") (codes "4.1.2.4") (codes "tbsCertificate.issuer")
    (λ c facts. is_empty c.tbs_certificate.issuer)
field_sentence rules.NotBeforeNotUtcTime =
    must (codes "not_before_not_utc_time") (codes "4.1.2.5") (codes "tbsCertificate.validity.notBefore")
    (λ c facts. is_early_general c.tbs_certificate.validity.not_before)
field_sentence rules.NotAfterNotUtcTime =
    must (codes "not_after_not_utc_time") (codes "4.1.2.5") (codes "tbsCertificate.validity.notAfter")
    (λ c facts. is_early_general c.tbs_certificate.validity.not_after)
field_sentence rules.NotAfterBeforeNotBefore =
    must (codes "not_after_before_not_before") (codes "4.1.2.5") (codes "tbsCertificate.validity.notAfter")
    (λ c facts. is_before c.tbs_certificate.validity.not_after c.tbs_certificate.validity.not_before)
field_sentence rules.UniqueIdentifierInV1 =
    must (codes "unique_identifier_in_v1") (codes "4.1.2.8") (codes "tbsCertificate")
    (λ c facts. has_unique_identifier c && is_v1 c.tbs_certificate.version)
field_sentence rules.UniqueIdentifierPresent =
    must (codes "unique_identifier_present") (codes "4.1.2.8") (codes "tbsCertificate")
    (λ c facts. has_unique_identifier c)
