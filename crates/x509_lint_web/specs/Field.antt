-- The rules on version, signature, key identifier and CRL distribution points of any certificate (TLS BR 7.1.1, 7.1.3.2, 7.1.2.11).
use Rattle.std.specs.Prelude.{◌&&◌, ◌||◌, ℕ, Bool, false, not, List, [], ◌∷◌, codes, is_some, None}
use Rattle.std.specs.List.{list_all, list_any}
use Rattle.x509_ext.specs.Identifiers.{id_ce}
use Rattle.x509_ext.specs.declared.pkix.authority_key_identifier.AuthorityKeyIdentifier.{AuthorityKeyIdentifier}
use Rattle.x509_ext.specs.declared.pkix.distribution_point.DistributionPoint.{DistributionPoint}
use Rattle.x509_ext.specs.declared.pkix.name.distribution_point_name.DistributionPointName.{DistributionPointName}
use Rattle.x509_ext.specs.declared.pkix.name.distribution_point_name.DistributionPointName.TheVariants.{FullName, NameRelativeToCRLIssuer}
use Rattle.x509_lint.specs.Field.{is_v3}
use Rattle.x509_lint.specs.Key.{is_self_issued}
use Rattle.x509_lint.specs.Words.{extensions_of, has_critical, is_empty, passes}
use Rattle.x509_lint_web.specs.Algorithm.{are_pss, is_ecdsa, is_null, is_of_sha1, is_rsa_pkcs1, is_rsa_pss}
use Rattle.x509_lint_web.specs.Words.{is_authority, is_http_name}
use Rattle.x509_lint_web.specs.Sentence.{Sentence, from_day, must}
use Rattle.x509_lint_web.specs.declared.rule.field.WebFieldRule.{WebFieldRule}
use Rattle.x509_lint_web.specs.declared.rule.field.WebFieldRule.TheVariants as rules

-- an algorithm that has no rule of its own, as SHA-1 has
abbrev pub is_allowed : List ℕ → Bool
is_allowed oid = is_rsa_pkcs1 oid || (is_rsa_pss oid || is_ecdsa oid)

abbrev pub has_issuer : AuthorityKeyIdentifier → Bool
has_issuer a = is_some a.authority_cert_issuer || is_some a.authority_cert_serial_number

-- general names, each an HTTP URI
abbrev pub is_http_full_name : DistributionPointName → Bool
is_http_full_name (FullName names) = not (is_empty names) && list_all is_http_name names
is_http_full_name (NameRelativeToCRLIssuer rdn) = false

abbrev pub is_without_http : DistributionPoint → Bool
is_without_http p = not (passes is_http_full_name p.distribution_point)

abbrev pub is_partial : DistributionPoint → Bool
is_partial p = is_some p.reasons || is_some p.crl_issuer

-- ---- the rules

abbrev pub field_rules : List WebFieldRule
field_rules =
    rules.VersionNotV3
    ∷ rules.SignatureOfSha1
    ∷ rules.SignatureAlgorithmOther
    ∷ rules.RsaSignatureParametersNotNull
    ∷ rules.EcdsaSignatureParametersPresent
    ∷ rules.RsaPssParametersOther
    ∷ rules.AuthorityCertIssuerPresent
    ∷ rules.CrlDistributionPointsCritical
    ∷ rules.CrlDistributionPointNotHttp
    ∷ rules.CrlDistributionPointPartial ∷ []

abbrev pub field_sentence : WebFieldRule → Sentence
field_sentence rules.VersionNotV3 =
    must (codes "version_not_v3") (codes "7.1.1") None (codes "tbsCertificate.version")
    (λ c v. not (is_v3 c.tbs_certificate.version))
field_sentence rules.SignatureOfSha1 =
    must (codes "signature_of_sha1") (codes "7.1.3.2") (from_day 2016 1 1) (codes "signatureAlgorithm")
    (λ c v. is_of_sha1 c.signature_algorithm.oid && not (is_authority v && is_self_issued c))
field_sentence rules.SignatureAlgorithmOther =
    must (codes "signature_algorithm_other") (codes "7.1.3.2") (from_day 2020 8 20) (codes "signatureAlgorithm")
    (λ c v. not (is_allowed c.signature_algorithm.oid) && not (is_of_sha1 c.signature_algorithm.oid))
field_sentence rules.RsaSignatureParametersNotNull =
    must (codes "rsa_signature_parameters_not_null") (codes "7.1.3.2.1") (from_day 2020 8 20) (codes "signatureAlgorithm")
    (λ c v. is_rsa_pkcs1 c.signature_algorithm.oid && not (passes is_null c.signature_algorithm.parameters))
field_sentence rules.EcdsaSignatureParametersPresent =
    must (codes "ecdsa_signature_parameters_present") (codes "7.1.3.2.2") (from_day 2020 8 20) (codes "signatureAlgorithm")
    (λ c v. is_ecdsa c.signature_algorithm.oid && is_some c.signature_algorithm.parameters)
field_sentence rules.RsaPssParametersOther =
    must (codes "rsa_pss_parameters_other") (codes "7.1.3.2.1") (from_day 2020 8 20) (codes "signatureAlgorithm")
    (λ c v. is_rsa_pss c.signature_algorithm.oid && not (passes are_pss c.signature_algorithm.parameters))
field_sentence rules.AuthorityCertIssuerPresent =
    must (codes "authority_cert_issuer_present") (codes "7.1.2.11.1") (from_day 2023 9 15) (codes "tbsCertificate.extensions.authorityKeyIdentifier")
    (λ c v. passes has_issuer v.authority_key_identifier)
field_sentence rules.CrlDistributionPointsCritical =
    must (codes "crl_distribution_points_critical") (codes "7.1.2.11.2") None (codes "tbsCertificate.extensions.cRLDistributionPoints")
    (λ c v. has_critical (id_ce 31) (extensions_of c))
field_sentence rules.CrlDistributionPointNotHttp =
    must (codes "crl_distribution_point_not_http") (codes "7.1.2.11.2") (from_day 2023 9 15) (codes "tbsCertificate.extensions.cRLDistributionPoints")
    (λ c v. passes (λ p. list_any is_without_http p.0) v.crl_distribution_points)
field_sentence rules.CrlDistributionPointPartial =
    must (codes "crl_distribution_point_partial") (codes "7.1.2.11.2") (from_day 2023 9 15) (codes "tbsCertificate.extensions.cRLDistributionPoints")
    (λ c v. passes (λ p. list_any is_partial p.0) v.crl_distribution_points)
