-- The rules on certificates of authorities that may stand above TLS servers (TLS BR 7.1.2.10, 7.1.2.11.2).
use Rattle.std.specs.Prelude.{◌&&◌, ◌||◌, ℕ, Bool, not, List, [], ◌∷◌, bytes_eq, codes, None}
use Rattle.std.specs.List.{list_any}
use Rattle.x509_ext.specs.Identifiers.{id_ce}
use Rattle.x509_ext.specs.KeyUsage.{has_bit}
use Rattle.x509_ext.specs.declared.pkix.key_usage.KeyUsage.{KeyUsage}
use Rattle.x509_lint.specs.Key.{is_self_issued}
use Rattle.x509_lint.specs.Text.{id_at}
use Rattle.x509_lint.specs.Words.{extensions_of, has, has_uncritical}
use Rattle.x509_lint_web.specs.Subject.{has_some, is_unknown_country}
use Rattle.x509_lint_web.specs.Usage.{is_forbidden, is_not_of_ec}
use Rattle.x509_lint_web.specs.Words.{has_attribute, has_purpose, has_usage}
use Rattle.x509_lint_web.specs.Sentence.{Sentence, from_day, must, should}
use Rattle.x509_lint_web.specs.declared.rule.authority.WebAuthorityRule.{WebAuthorityRule}
use Rattle.x509_lint_web.specs.declared.rule.authority.WebAuthorityRule.TheVariants as rules
use Rattle.x509_name.specs.declared.attr.type_and_value.AttributeTypeAndValue.{AttributeTypeAndValue}

-- nonRepudiation, keyEncipherment, dataEncipherment, keyAgreement, encipherOnly or decipherOnly
abbrev pub is_not_of_authority : KeyUsage → Bool
is_not_of_authority u = is_not_of_ec u || has_bit u 4

-- commonName, countryName, localityName, stateOrProvinceName, streetAddress, organizationName, postalCode; and organizationalUnitName, which has rules of its
-- own
abbrev pub authority_attributes : List (List ℕ)
authority_attributes = id_at 3 ∷ id_at 6 ∷ id_at 7 ∷ id_at 8 ∷ id_at 9 ∷ id_at 10 ∷ id_at 17 ∷ id_at 11 ∷ []

abbrev pub is_of_authorities : List ℕ → Bool
is_of_authorities attribute = list_any (λ oid. bytes_eq oid attribute) authority_attributes

abbrev pub is_not_of_authorities : AttributeTypeAndValue → Bool
is_not_of_authorities a = not (is_of_authorities a.oid)

-- ---- the rules

abbrev pub authority_rules : List WebAuthorityRule
authority_rules =
    rules.CaKeyUsageNotCritical
    ∷ rules.CaWithoutCrlSign
    ∷ rules.CaKeyUsageOther
    ∷ rules.CaWithoutCommonName
    ∷ rules.CaWithoutOrganization
    ∷ rules.CaWithoutCountry
    ∷ rules.CaExtendedKeyUsageForbidden
    ∷ rules.SubordinateWithoutPolicies
    ∷ rules.SubordinateWithoutCrlPoints
    ∷ rules.CaCountryUnknown
    ∷ rules.CaAttributeOther ∷ []

abbrev pub authority_sentence : WebAuthorityRule → Sentence
authority_sentence rules.CaKeyUsageNotCritical =
    must (codes "ca_key_usage_not_critical") (codes "7.1.2.10.7") None (codes "tbsCertificate.extensions.keyUsage")
    (λ c v. has_uncritical (id_ce 15) (extensions_of c))
authority_sentence rules.CaWithoutCrlSign =
    must (codes "ca_without_crl_sign") (codes "7.1.2.10.7") None (codes "tbsCertificate.extensions.keyUsage")
    (λ c v. has_usage (λ u. not (has_bit u 6)) v)
authority_sentence rules.CaKeyUsageOther =
    must (codes "ca_key_usage_other") (codes "7.1.2.10.7") (from_day 2023 9 15) (codes "tbsCertificate.extensions.keyUsage")
    (λ c v. has_usage is_not_of_authority v)
authority_sentence rules.CaWithoutCommonName =
    must (codes "ca_without_common_name") (codes "7.1.2.10.2") (from_day 2023 9 15) (codes "tbsCertificate.subject")
    (λ c v. not (has_attribute (id_at 3) c.tbs_certificate.subject))
authority_sentence rules.CaWithoutOrganization =
    must (codes "ca_without_organization") (codes "7.1.2.10.2") None (codes "tbsCertificate.subject")
    (λ c v. not (has_attribute (id_at 10) c.tbs_certificate.subject))
authority_sentence rules.CaWithoutCountry =
    must (codes "ca_without_country") (codes "7.1.2.10.2") None (codes "tbsCertificate.subject")
    (λ c v. not (has_attribute (id_at 6) c.tbs_certificate.subject))
authority_sentence rules.CaExtendedKeyUsageForbidden =
    must (codes "ca_extended_key_usage_forbidden") (codes "7.1.2.10.6") (from_day 2023 9 15) (codes "tbsCertificate.extensions.extKeyUsage")
    (λ c v. has_purpose is_forbidden v)
authority_sentence rules.SubordinateWithoutPolicies =
    must (codes "subordinate_without_policies") (codes "7.1.2.10.5") None (codes "tbsCertificate.extensions.certificatePolicies")
    (λ c v. not (is_self_issued c) && not (has (id_ce 32) (extensions_of c)))
authority_sentence rules.SubordinateWithoutCrlPoints =
    must (codes "subordinate_without_crl_points") (codes "7.1.2.11.2") None (codes "tbsCertificate.extensions.cRLDistributionPoints")
    (λ c v. not (is_self_issued c) && not (has (id_ce 31) (extensions_of c)))
authority_sentence rules.CaCountryUnknown =
    must (codes "ca_country_unknown") (codes "7.1.2.10.2") (from_day 2012 7 1) (codes "tbsCertificate.subject")
    (λ c v. has_some is_unknown_country c.tbs_certificate.subject)
authority_sentence rules.CaAttributeOther =
    should (codes "ca_attribute_other") (codes "7.1.2.10.2") (from_day 2023 9 15) (codes "tbsCertificate.subject")
    (λ c v. has_some is_not_of_authorities c.tbs_certificate.subject)
