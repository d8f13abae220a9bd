-- The rules on certificate policies and authority information access of certificates of TLS servers (TLS BR 7.1.2.7, 7.1.2.11.2).
use Rattle.std.specs.Prelude.{◌&&◌, ◌||◌, ℕ, Bool, not, List, [], ◌∷◌, bytes_eq, codes, is_some, None}
use Rattle.std.specs.List.{list_any}
use Rattle.x509_ext.specs.Identifiers.{id_ce, id_pkix}
use Rattle.x509_ext.specs.declared.pkix.access.AccessDescription.{AccessDescription}
use Rattle.x509_ext.specs.declared.pkix.policy_information.PolicyInformation.{PolicyInformation}
use Rattle.x509_lint.specs.Place.{ca_issuers}
use Rattle.x509_lint.specs.Policy.{any_policy}
use Rattle.x509_lint.specs.Text.{id_at}
use Rattle.x509_lint.specs.Words.{Certificate, extensions_of, has, has_critical, passes}
use Rattle.x509_lint_web.specs.Words.{has_attribute, has_policy, is_http_name}
use Rattle.x509_name.specs.declared.attr.type_and_value.AttributeTypeAndValue.{AttributeTypeAndValue}
use Rattle.x509_lint_web.specs.Sentence.{Sentence, from_day, must, must_until, should}
use Rattle.x509_lint_web.specs.Validity.{is_longer}
use Rattle.x509_lint_web.specs.declared.values.WebValues.{WebValues}
use Rattle.x509_lint_web.specs.declared.rule.policy.WebPolicyRule.{WebPolicyRule}
use Rattle.x509_lint_web.specs.declared.rule.policy.WebPolicyRule.TheVariants as rules

-- ---- policies (TLS BR 7.1.6.1)

-- 2.23.140.1.1: extended validation
abbrev pub extended_validation : List ℕ
extended_validation = 0x67 ∷ 0x81 ∷ 0x0C ∷ 0x01 ∷ 0x01 ∷ []

-- 2.23.140.1.2.n
abbrev pub validated : ℕ → List ℕ
validated n = 0x67 ∷ 0x81 ∷ 0x0C ∷ 0x01 ∷ 0x02 ∷ n ∷ []

abbrev pub domain_validated : List ℕ
domain_validated = validated 1

abbrev pub organization_validated : List ℕ
organization_validated = validated 2

abbrev pub individual_validated : List ℕ
individual_validated = validated 3

abbrev pub is_reserved : PolicyInformation → Bool
is_reserved p =
    bytes_eq p.policy_identifier domain_validated || (bytes_eq p.policy_identifier organization_validated
    || (bytes_eq p.policy_identifier individual_validated || bytes_eq p.policy_identifier extended_validation))

-- a qualifier other than id-qt-cps
abbrev pub has_other_qualifier : PolicyInformation → Bool
has_other_qualifier p = passes (λ qualifiers. list_any (λ q. not (bytes_eq q.policy_qualifier_id (id_pkix 2 1))) qualifiers) p.policy_qualifiers

-- an attribute that is neither countryName nor commonName
abbrev pub is_other_attribute : AttributeTypeAndValue → Bool
is_other_attribute a = not (bytes_eq a.oid (id_at 6)) && not (bytes_eq a.oid (id_at 3))

abbrev pub has_other_attribute : List (List AttributeTypeAndValue) → Bool
has_other_attribute rdns = list_any (λ rdn. list_any is_other_attribute rdn) rdns

-- ---- access (TLS BR 7.1.2.7.7)

-- id-ad-ocsp (RFC 5280 4.2.2.1)
abbrev pub is_ocsp : AccessDescription → Bool
is_ocsp d = bytes_eq d.access_method (id_pkix 48 1)

-- neither id-ad-ocsp nor id-ad-caIssuers
abbrev pub has_other_method : AccessDescription → Bool
has_other_method d = not (bytes_eq d.access_method (id_pkix 48 1)) && not (bytes_eq d.access_method ca_issuers)

abbrev pub has_other_location : AccessDescription → Bool
has_other_location d = not (is_http_name d.access_location)

-- no word on where it is told whether the certificate is revoked: no CRLDistributionPoints, and no access for OCSP, or none that isn't read
abbrev pub is_without_revocation : Certificate → WebValues → Bool
is_without_revocation c v =
    not (has (id_ce 31) (extensions_of c)) && (not (has (id_pkix 1 1) (extensions_of c)) || passes (λ a. not (list_any is_ocsp a.0)) v.authority_info_access)

-- ---- the rules

abbrev pub policy_rules : List WebPolicyRule
policy_rules =
    rules.CertificatePoliciesAbsent
    ∷ rules.CertificatePoliciesCritical
    ∷ rules.ReservedPolicyAbsent
    ∷ rules.AnyPolicyPresent
    ∷ rules.PolicyQualifiersPresent
    ∷ rules.PolicyQualifierOther
    ∷ rules.DomainValidatedAttribute
    ∷ rules.OrganizationValidatedWithoutOrganization
    ∷ rules.OrganizationValidatedWithoutCountry
    ∷ rules.AuthorityInfoAccessAbsent
    ∷ rules.OcspAccessAbsent
    ∷ rules.AccessMethodOther
    ∷ rules.AccessLocationNotHttp
    ∷ rules.RevocationAbsentOver10Days
    ∷ rules.RevocationAbsentOver7Days ∷ []

abbrev pub policy_sentence : WebPolicyRule → Sentence
policy_sentence rules.CertificatePoliciesAbsent =
    must (codes "certificate_policies_absent") (codes "7.1.2.7.9") None (codes "tbsCertificate.extensions.certificatePolicies")
    (λ c v. not (has (id_ce 32) (extensions_of c)))
policy_sentence rules.CertificatePoliciesCritical =
    must (codes "certificate_policies_critical") (codes "7.1.2.7.6") (from_day 2023 9 15) (codes "tbsCertificate.extensions.certificatePolicies")
    (λ c v. has_critical (id_ce 32) (extensions_of c))
policy_sentence rules.ReservedPolicyAbsent =
    must (codes "reserved_policy_absent") (codes "7.1.2.7.9") (from_day 2020 9 30) (codes "tbsCertificate.extensions.certificatePolicies")
    (λ c v. passes (λ p. not (list_any is_reserved p.0)) v.certificate_policies)
policy_sentence rules.AnyPolicyPresent =
    must (codes "any_policy_present") (codes "7.1.2.7.9") (from_day 2023 9 15) (codes "tbsCertificate.extensions.certificatePolicies")
    (λ c v. has_policy any_policy v)
policy_sentence rules.PolicyQualifiersPresent =
    should (codes "policy_qualifiers_present") (codes "7.1.2.7.9") (from_day 2023 9 15) (codes "tbsCertificate.extensions.certificatePolicies")
    (λ c v. passes (λ p. list_any (λ policy. is_some policy.policy_qualifiers) p.0) v.certificate_policies)
policy_sentence rules.PolicyQualifierOther =
    must (codes "policy_qualifier_other") (codes "7.1.2.7.9") (from_day 2023 9 15) (codes "tbsCertificate.extensions.certificatePolicies")
    (λ c v. passes (λ p. list_any has_other_qualifier p.0) v.certificate_policies)
policy_sentence rules.DomainValidatedAttribute =
    must (codes "domain_validated_attribute") (codes "7.1.2.7.2") (from_day 2023 9 15) (codes "tbsCertificate.subject")
    (λ c v. has_policy domain_validated v && has_other_attribute c.tbs_certificate.subject)
policy_sentence rules.OrganizationValidatedWithoutOrganization =
    must (codes "organization_validated_without_organization") (codes "7.1.2.7.4") None (codes "tbsCertificate.subject")
    (λ c v. has_policy organization_validated v && not (has_attribute (id_at 10) c.tbs_certificate.subject))
policy_sentence rules.OrganizationValidatedWithoutCountry =
    must (codes "organization_validated_without_country") (codes "7.1.2.7.4") None (codes "tbsCertificate.subject")
    (λ c v. has_policy organization_validated v && not (has_attribute (id_at 6) c.tbs_certificate.subject))
policy_sentence rules.AuthorityInfoAccessAbsent =
    must (codes "authority_info_access_absent") (codes "7.1.2.7.7") (from_day 2012 7 1) (codes "tbsCertificate.extensions.authorityInfoAccess")
    (λ c v. not (has (id_pkix 1 1) (extensions_of c)))
policy_sentence rules.OcspAccessAbsent =
    must_until (codes "ocsp_access_absent") (codes "7.1.2.7.7") (from_day 2012 7 1) (from_day 2024 3 15) (codes "tbsCertificate.extensions.authorityInfoAccess")
    (λ c v. passes (λ a. not (list_any is_ocsp a.0)) v.authority_info_access)
policy_sentence rules.AccessMethodOther =
    must (codes "access_method_other") (codes "7.1.2.7.7") (from_day 2023 9 15) (codes "tbsCertificate.extensions.authorityInfoAccess")
    (λ c v. passes (λ a. list_any has_other_method a.0) v.authority_info_access)
policy_sentence rules.AccessLocationNotHttp =
    must (codes "access_location_not_http") (codes "7.1.2.7.7") (from_day 2023 9 15) (codes "tbsCertificate.extensions.authorityInfoAccess")
    (λ c v. passes (λ a. list_any has_other_location a.0) v.authority_info_access)
policy_sentence rules.RevocationAbsentOver10Days =
    must (codes "revocation_absent_over_10_days") (codes "7.1.2.11.2") (from_day 2024 3 15) (codes "tbsCertificate.extensions")
    (λ c v. is_longer 10 c && is_without_revocation c v)
policy_sentence rules.RevocationAbsentOver7Days =
    must (codes "revocation_absent_over_7_days") (codes "7.1.2.11.2") (from_day 2026 3 15) (codes "tbsCertificate.extensions")
    (λ c v. is_longer 7 c && is_without_revocation c v)
