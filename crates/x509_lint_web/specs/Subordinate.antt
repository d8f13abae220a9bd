-- The rules on certificates of authorities that may stand above TLS servers and have another issuer (TLS BR 7.1.2.6.1, 7.1.2.10).
use Rattle.std.specs.Prelude.{◌&&◌, not, nat_lt, length, List, [], ◌∷◌, codes, is_some}
use Rattle.std.specs.List.{list_any}
use Rattle.x509_ext.specs.Identifiers.{id_ce, id_pkix}
use Rattle.x509_lint.specs.Policy.{any_policy}
use Rattle.x509_lint.specs.Text.{id_at}
use Rattle.x509_lint.specs.Words.{extensions_of, has, has_critical, passes}
use Rattle.x509_lint_web.specs.Policy.{has_other_location, has_other_method, has_other_qualifier, is_reserved}
use Rattle.x509_lint_web.specs.Usage.{is_other_purpose}
use Rattle.x509_lint_web.specs.Words.{has_attribute, has_policy, has_purpose}
use Rattle.x509_lint_web.specs.Sentence.{Sentence, from_day, must, should}
use Rattle.x509_lint_web.specs.declared.rule.subordinate.WebSubordinateRule.{WebSubordinateRule}
use Rattle.x509_lint_web.specs.declared.rule.subordinate.WebSubordinateRule.TheVariants as rules

abbrev pub subordinate_rules : List WebSubordinateRule
subordinate_rules =
    rules.SubordinateWithoutExtendedKeyUsage
    ∷ rules.SubordinateExtendedKeyUsageCritical
    ∷ rules.SubordinateExtendedKeyUsageOther
    ∷ rules.SubordinatePoliciesCritical
    ∷ rules.SubordinateWithoutReservedPolicy
    ∷ rules.SubordinateAnyPolicyAmongOthers
    ∷ rules.SubordinatePolicyQualifiersPresent
    ∷ rules.SubordinatePolicyQualifierOther
    ∷ rules.SubordinateWithoutAuthorityInfoAccess
    ∷ rules.SubordinateAccessMethodOther
    ∷ rules.SubordinateAccessLocationNotHttp
    ∷ rules.SubordinateOrganizationalUnitPresent ∷ []

abbrev pub subordinate_sentence : WebSubordinateRule → Sentence
subordinate_sentence rules.SubordinateWithoutExtendedKeyUsage =
    should (codes "subordinate_without_extended_key_usage") (codes "7.1.2.10.6") (from_day 2023 9 15) (codes "tbsCertificate.extensions.extKeyUsage")
    (λ c v. not (has (id_ce 37) (extensions_of c)))
subordinate_sentence rules.SubordinateExtendedKeyUsageCritical =
    must (codes "subordinate_extended_key_usage_critical") (codes "7.1.2.6.1") (from_day 2023 9 15) (codes "tbsCertificate.extensions.extKeyUsage")
    (λ c v. has_critical (id_ce 37) (extensions_of c))
subordinate_sentence rules.SubordinateExtendedKeyUsageOther =
    should (codes "subordinate_extended_key_usage_other") (codes "7.1.2.10.6") (from_day 2023 9 15) (codes "tbsCertificate.extensions.extKeyUsage")
    (λ c v. has_purpose is_other_purpose v)
subordinate_sentence rules.SubordinatePoliciesCritical =
    must (codes "subordinate_policies_critical") (codes "7.1.2.6.1") (from_day 2023 9 15) (codes "tbsCertificate.extensions.certificatePolicies")
    (λ c v. has_critical (id_ce 32) (extensions_of c))
subordinate_sentence rules.SubordinateWithoutReservedPolicy =
    must (codes "subordinate_without_reserved_policy") (codes "7.1.2.10.5") (from_day 2023 9 15) (codes "tbsCertificate.extensions.certificatePolicies")
    (λ c v. passes (λ p. not (list_any is_reserved p.0)) v.certificate_policies && not (has_policy any_policy v))
subordinate_sentence rules.SubordinateAnyPolicyAmongOthers =
    must (codes "subordinate_any_policy_among_others") (codes "7.1.2.10.5") (from_day 2023 9 15) (codes "tbsCertificate.extensions.certificatePolicies")
    (λ c v. has_policy any_policy v && passes (λ p. nat_lt 1 (length p.0)) v.certificate_policies)
subordinate_sentence rules.SubordinatePolicyQualifiersPresent =
    should (codes "subordinate_policy_qualifiers_present") (codes "7.1.2.10.5") (from_day 2023 9 15) (codes "tbsCertificate.extensions.certificatePolicies")
    (λ c v. passes (λ p. list_any (λ policy. is_some policy.policy_qualifiers) p.0) v.certificate_policies)
subordinate_sentence rules.SubordinatePolicyQualifierOther =
    must (codes "subordinate_policy_qualifier_other") (codes "7.1.2.10.5") (from_day 2023 9 15) (codes "tbsCertificate.extensions.certificatePolicies")
    (λ c v. passes (λ p. list_any has_other_qualifier p.0) v.certificate_policies)
subordinate_sentence rules.SubordinateWithoutAuthorityInfoAccess =
    should (codes "subordinate_without_authority_info_access") (codes "7.1.2.10.3") (from_day 2023 9 15) (codes "tbsCertificate.extensions.authorityInfoAccess")
    (λ c v. not (has (id_pkix 1 1) (extensions_of c)))
subordinate_sentence rules.SubordinateAccessMethodOther =
    must (codes "subordinate_access_method_other") (codes "7.1.2.10.3") (from_day 2023 9 15) (codes "tbsCertificate.extensions.authorityInfoAccess")
    (λ c v. passes (λ a. list_any has_other_method a.0) v.authority_info_access)
subordinate_sentence rules.SubordinateAccessLocationNotHttp =
    must (codes "subordinate_access_location_not_http") (codes "7.1.2.10.3") (from_day 2023 9 15) (codes "tbsCertificate.extensions.authorityInfoAccess")
    (λ c v. passes (λ a. list_any has_other_location a.0) v.authority_info_access)
subordinate_sentence rules.SubordinateOrganizationalUnitPresent =
    should (codes "subordinate_organizational_unit_present") (codes "7.1.2.10.2") (from_day 2023 9 15) (codes "tbsCertificate.subject")
    (λ c v. has_attribute (id_at 11) c.tbs_certificate.subject)
