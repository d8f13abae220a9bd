-- The rules on certificate policies, policy mappings and policy constraints (RFC 5280 4.2.1.4, 4.2.1.5, 4.2.1.11; RFC 6818 3): what breaks each, their order, and how each is told.
use Rattle.std.specs.Prelude.{◌&&◌, ◌||◌, Bool, not, nat_lt, ℕ, List, [], ◌∷◌, Option, bytes_eq, codes, is_some}
use Rattle.std.specs.List.{list_all, list_any}
use Rattle.x509_der.specs.declared.any.Any.{Any}
use Rattle.x509_ext.specs.Identifiers.{id_ce, id_pkix}
use Rattle.x509_ext.specs.declared.pkix.policy_information.PolicyInformation.{PolicyInformation}
use Rattle.x509_ext.specs.declared.pkix.policy_information.PolicyQualifierInfo.{PolicyQualifierInfo}
use Rattle.x509_ext.specs.declared.pkix.policy_mapping.PolicyMapping.{PolicyMapping}
use Rattle.x509_lint.specs.Beyond.{is_unjudged}
use Rattle.x509_lint.specs.declared.beyond.Beyond.TheVariants.{Identifiers}
use Rattle.x509_lint.specs.Text.{is_ia5_string}
use Rattle.x509_lint.specs.Uri.{is_any_uri}
use Rattle.x509_lint.specs.Words.{Certificate, extensions_of, has, is_empty, passes}
use Rattle.x509_lint.specs.declared.rule.policy.PointerFault.{PointerFault}
use Rattle.x509_lint.specs.declared.rule.policy.PointerFault.TheVariants.{NoText, NoUri}
use Rattle.x509_lint.specs.declared.values.PolicyValues.{PolicyValues}
use Rattle.x509_lint.specs.declared.rule.policy.PolicyRule.{PolicyRule}
use Rattle.x509_lint.specs.declared.rule.policy.PolicyRule.TheVariants as rules
use Rattle.x509_lint.specs.Sentence.{Sentence, must, must_of, should, should_of, not_judged}

-- the content octets of 2.5.29.32.0, anyPolicy (RFC 5280 4.2.1.4)
abbrev pub any_policy : List ℕ
any_policy = 0x55 ∷ 0x1D ∷ 32 ∷ 0 ∷ []

abbrev pub is_of_any_policy : PolicyMapping → Bool
is_of_any_policy mapping = bytes_eq mapping.issuer_domain_policy any_policy || bytes_eq mapping.subject_domain_policy any_policy

-- the certificate policies are absent, or there is one extension of the type, and it is read
abbrev pub are_policies_known : Certificate → PolicyValues → Bool
are_policies_known c v = not (has (id_ce 32) (extensions_of c)) || is_some v.certificate_policies

-- neither id-qt-cps nor id-qt-unotice
abbrev pub is_other_qualifier : PolicyQualifierInfo → Bool
is_other_qualifier q = not (bytes_eq q.policy_qualifier_id (id_pkix 2 1)) && not (bytes_eq q.policy_qualifier_id (id_pkix 2 2))

-- anyPolicy with a qualifier that is neither
abbrev pub has_other_qualifier : PolicyInformation → Bool
has_other_qualifier p = bytes_eq p.policy_identifier any_policy && passes (λ qualifiers. list_any is_other_qualifier qualifiers) p.policy_qualifiers

-- another policy than anyPolicy with a qualifier that is neither
abbrev pub has_further_qualifier : PolicyInformation → Bool
has_further_qualifier p = not (bytes_eq p.policy_identifier any_policy) && passes (λ qualifiers. list_any is_other_qualifier qualifiers) p.policy_qualifiers

-- CPSuri, an IA5String (RFC 5280 4.2.1.4)
abbrev pub is_pointer : Any → Bool
is_pointer element = is_ia5_string element.tag && list_all (λ octet. nat_lt octet 128) element.value

-- what is wrong with the qualifier of a CPS pointer: there is none of that type, or it isn't a URI
abbrev pub is_faulty_text : PointerFault → Option Any → Bool
is_faulty_text NoText qualifier = not (passes is_pointer qualifier)
is_faulty_text NoUri qualifier = passes (λ element. is_pointer element && not (is_any_uri element.value)) qualifier

-- a CPS pointer (id-qt-cps) with the fault
abbrev pub is_faulty_pointer : PointerFault → PolicyQualifierInfo → Bool
is_faulty_pointer fault q = bytes_eq q.policy_qualifier_id (id_pkix 2 1) && is_faulty_text fault q.qualifier

-- a policy with one
abbrev pub has_faulty_pointer : PointerFault → PolicyInformation → Bool
has_faulty_pointer fault p = passes (λ qualifiers. list_any (is_faulty_pointer fault) qualifiers) p.policy_qualifiers

-- ---- the rules, in their order

abbrev pub policy_rules : List PolicyRule
policy_rules =
    rules.CertificatePoliciesEmpty
    ∷ rules.CertificatePolicyRepeated
    ∷ rules.PolicyQualifiersEmpty
    ∷ rules.AnyPolicyQualifierInvalid
    ∷ rules.PolicyQualifierOther
    ∷ rules.CpsPointerMalformed
    ∷ rules.CpsPointerNotUri
    ∷ rules.UserNoticeMalformed
    ∷ rules.ExplicitTextTooLong
    ∷ rules.ExplicitTextEmpty
    ∷ rules.ExplicitTextType
    ∷ rules.ExplicitTextNotUtf8String
    ∷ rules.ExplicitTextControl
    ∷ rules.NoticeReferencePresent
    ∷ rules.ExplicitTextNotNormalized
    ∷ rules.CertificatePoliciesNotJudged
    ∷ rules.PolicyMappingsEmpty
    ∷ rules.PolicyMappingAnyPolicy
    ∷ rules.PolicyMappingNotAsserted
    ∷ rules.PolicyMappingsNotJudged
    ∷ rules.PolicyConstraintsEmpty ∷ []

abbrev pub policy_sentence : PolicyRule → Sentence Certificate PolicyValues
policy_sentence rules.CertificatePoliciesEmpty =
    must (codes "certificate_policies_empty") (codes "4.2.1.4") (codes "tbsCertificate.extensions.certificatePolicies")
    (λ c v. passes (λ p. is_empty p.0) v.certificate_policies)
policy_sentence rules.CertificatePolicyRepeated =
    must (codes "certificate_policy_repeated") (codes "4.2.1.4") (codes "tbsCertificate.extensions.certificatePolicies")
    (λ c v. not v.are_policies_distinct)
policy_sentence rules.PolicyQualifiersEmpty =
    must (codes "policy_qualifiers_empty") (codes "4.2.1.4") (codes "tbsCertificate.extensions.certificatePolicies")
    (λ c v. passes (λ p. list_any (λ policy. passes is_empty policy.policy_qualifiers) p.0) v.certificate_policies)
policy_sentence rules.AnyPolicyQualifierInvalid =
    must (codes "any_policy_qualifier_invalid") (codes "4.2.1.4") (codes "tbsCertificate.extensions.certificatePolicies")
    (λ c v. passes (λ p. list_any has_other_qualifier p.0) v.certificate_policies)
policy_sentence rules.PolicyQualifierOther =
    should (codes "policy_qualifier_other") (codes "4.2.1.4") (codes "tbsCertificate.extensions.certificatePolicies")
    (λ c v. passes (λ p. list_any has_further_qualifier p.0) v.certificate_policies)
policy_sentence rules.CpsPointerMalformed =
    must (codes "cps_pointer_malformed") (codes "4.2.1.4") (codes "tbsCertificate.extensions.certificatePolicies")
    (λ c v. passes (λ p. list_any (has_faulty_pointer NoText) p.0) v.certificate_policies)
policy_sentence rules.CpsPointerNotUri =
    must (codes "cps_pointer_not_uri") (codes "4.2.1.4") (codes "tbsCertificate.extensions.certificatePolicies")
    (λ c v. passes (λ p. list_any (has_faulty_pointer NoUri) p.0) v.certificate_policies)
policy_sentence rules.UserNoticeMalformed =
    must (codes "user_notice_malformed") (codes "4.2.1.4") (codes "tbsCertificate.extensions.certificatePolicies")
    (λ c v. v.notices.has_unread_notice)
policy_sentence rules.ExplicitTextTooLong =
    must (codes "explicit_text_too_long") (codes "4.2.1.4") (codes "tbsCertificate.extensions.certificatePolicies")
    (λ c v. v.notices.has_long_text)
policy_sentence rules.ExplicitTextEmpty =
    must (codes "explicit_text_empty") (codes "4.2.1.4") (codes "tbsCertificate.extensions.certificatePolicies")
    (λ c v. v.notices.has_empty_text)
policy_sentence rules.ExplicitTextType =
    must_of (codes "RFC 6818") (codes "explicit_text_type") (codes "3") (codes "tbsCertificate.extensions.certificatePolicies")
    (λ c v. v.notices.has_ia5_text)
policy_sentence rules.ExplicitTextNotUtf8String =
    should_of (codes "RFC 6818") (codes "explicit_text_not_utf8_string") (codes "3") (codes "tbsCertificate.extensions.certificatePolicies")
    (λ c v. v.notices.has_old_text)
policy_sentence rules.ExplicitTextControl =
    should (codes "explicit_text_control") (codes "4.2.1.4") (codes "tbsCertificate.extensions.certificatePolicies")
    (λ c v. v.notices.has_control)
policy_sentence rules.NoticeReferencePresent =
    should (codes "notice_reference_present") (codes "4.2.1.4") (codes "tbsCertificate.extensions.certificatePolicies")
    (λ c v. v.notices.has_reference)
policy_sentence rules.ExplicitTextNotNormalized =
    should (codes "explicit_text_not_normalized") (codes "4.2.1.4") (codes "tbsCertificate.extensions.certificatePolicies")
    (λ c v. v.notices.has_unnormalized)
policy_sentence rules.CertificatePoliciesNotJudged =
    not_judged (codes "certificate_policies_not_read") (codes "4.2.1.4") (codes "tbsCertificate.extensions.certificatePolicies")
    (λ c v. is_unjudged (id_ce 32) Identifiers (extensions_of c) (is_some v.certificate_policies))
policy_sentence rules.PolicyMappingsEmpty =
    must (codes "policy_mappings_empty") (codes "4.2.1.5") (codes "tbsCertificate.extensions.policyMappings")
    (λ c v. passes (λ m. is_empty m.0) v.policy_mappings)
policy_sentence rules.PolicyMappingAnyPolicy =
    must (codes "policy_mapping_any_policy") (codes "4.2.1.5") (codes "tbsCertificate.extensions.policyMappings")
    (λ c v. passes (λ m. list_any is_of_any_policy m.0) v.policy_mappings)
policy_sentence rules.PolicyMappingNotAsserted =
    should (codes "policy_mapping_not_asserted") (codes "4.2.1.5") (codes "tbsCertificate.extensions.policyMappings")
    (λ c v. are_policies_known c v && v.has_unasserted_mapping)
policy_sentence rules.PolicyMappingsNotJudged =
    not_judged (codes "policy_mappings_not_read") (codes "4.2.1.5") (codes "tbsCertificate.extensions.policyMappings")
    (λ c v. is_unjudged (id_ce 33) Identifiers (extensions_of c) (is_some v.policy_mappings))
policy_sentence rules.PolicyConstraintsEmpty =
    must (codes "policy_constraints_empty") (codes "4.2.1.11") (codes "tbsCertificate.extensions.policyConstraints")
    (λ c v. passes (λ p. not (is_some p.require_explicit_policy) && not (is_some p.inhibit_policy_mapping)) v.policy_constraints)
