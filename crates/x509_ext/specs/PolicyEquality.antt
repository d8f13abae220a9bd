-- Equality of what extensions say of policies is exact.
use Rattle.std.specs.Prelude.{refl}
use Rattle.x509_der.specs.Exact.{IsExact, exact_number, exact_octets, exact_list, exact_option, exact_both, exact_last, exact_by, exact_cases}
use Rattle.x509_der.specs.Equality.{exact_any}
use Rattle.x509_ext.specs.contracts.pkix.certificate_policies.CertificatePoliciesPartialEq.TheImpl as certificate_policies_eq
use Rattle.x509_ext.specs.contracts.pkix.display_text.DisplayText.{enum as texts}
use Rattle.x509_ext.specs.contracts.pkix.display_text.DisplayTextPartialEq.TheImpl as display_text_eq
use Rattle.x509_ext.specs.contracts.pkix.inhibit_any_policy.InhibitAnyPolicyPartialEq.TheImpl as inhibit_any_policy_eq
use Rattle.x509_ext.specs.contracts.pkix.policy_constraints.PolicyConstraintsPartialEq.TheImpl as policy_constraints_eq
use Rattle.x509_ext.specs.contracts.pkix.policy_information.PolicyInformationPartialEq.TheImpl as policy_information_eq
use Rattle.x509_ext.specs.contracts.pkix.policy_information.PolicyQualifierInfoPartialEq.TheImpl as policy_qualifier_info_eq
use Rattle.x509_ext.specs.contracts.pkix.policy_mapping.PolicyMappingPartialEq.TheImpl as policy_mapping_eq
use Rattle.x509_ext.specs.contracts.pkix.policy_mapping.PolicyMappingsPartialEq.TheImpl as policy_mappings_eq
use Rattle.x509_ext.specs.contracts.pkix.user_notice.NoticeReferencePartialEq.TheImpl as notice_reference_eq
use Rattle.x509_ext.specs.contracts.pkix.user_notice.UserNoticePartialEq.TheImpl as user_notice_eq
use Rattle.x509_ext.specs.declared.pkix.certificate_policies.CertificatePolicies.{CertificatePolicies}
use Rattle.x509_ext.specs.declared.pkix.inhibit_any_policy.InhibitAnyPolicy.{InhibitAnyPolicy}
use Rattle.x509_ext.specs.declared.pkix.policy_constraints.PolicyConstraints.{PolicyConstraints}
use Rattle.x509_ext.specs.declared.pkix.policy_information.PolicyInformation.{PolicyInformation}
use Rattle.x509_ext.specs.declared.pkix.policy_information.PolicyQualifierInfo.{PolicyQualifierInfo}
use Rattle.x509_ext.specs.declared.pkix.policy_mapping.PolicyMapping.{PolicyMapping}
use Rattle.x509_ext.specs.declared.pkix.policy_mapping.PolicyMappings.{PolicyMappings}
use Rattle.x509_ext.specs.declared.pkix.user_notice.NoticeReference.{NoticeReference}
use Rattle.x509_ext.specs.declared.pkix.user_notice.UserNotice.{UserNotice}

pub exact_display_text : IsExact display_text_eq.ghosts.eq
exact_display_text = exact_cases texts _ (exact_last exact_octets, (exact_last exact_octets, (exact_last exact_octets, (exact_last exact_octets, tt))))

pub exact_notice_reference : IsExact notice_reference_eq.ghosts.eq
exact_notice_reference =
    exact_by (λ (n : NoticeReference). (n.organization, n.notice_numbers))
    (λ (organization, notice_numbers). record { organization = organization; notice_numbers = notice_numbers })
    (λ n. refl) (exact_both exact_display_text (exact_option (exact_list exact_octets)))

pub exact_user_notice : IsExact user_notice_eq.ghosts.eq
exact_user_notice =
    exact_by (λ (u : UserNotice). (u.notice_ref, u.explicit_text))
    (λ (notice_ref, explicit_text). record { notice_ref = notice_ref; explicit_text = explicit_text })
    (λ u. refl) (exact_both (exact_option exact_notice_reference) (exact_option exact_display_text))

pub exact_policy_qualifier_info : IsExact policy_qualifier_info_eq.ghosts.eq
exact_policy_qualifier_info =
    exact_by (λ (p : PolicyQualifierInfo). (p.policy_qualifier_id, p.qualifier))
    (λ (policy_qualifier_id, qualifier). record { policy_qualifier_id = policy_qualifier_id; qualifier = qualifier })
    (λ p. refl) (exact_both exact_octets (exact_option exact_any))

pub exact_policy_information : IsExact policy_information_eq.ghosts.eq
exact_policy_information =
    exact_by (λ (p : PolicyInformation). (p.policy_identifier, p.policy_qualifiers))
    (λ (policy_identifier, policy_qualifiers). record { policy_identifier = policy_identifier; policy_qualifiers = policy_qualifiers })
    (λ p. refl) (exact_both exact_octets (exact_option (exact_list exact_policy_qualifier_info)))

pub exact_certificate_policies : IsExact certificate_policies_eq.ghosts.eq
exact_certificate_policies = exact_by (λ (c : CertificatePolicies). c.0) (λ x. record { 0 = x }) (λ c. refl) (exact_list exact_policy_information)

pub exact_policy_mapping : IsExact policy_mapping_eq.ghosts.eq
exact_policy_mapping =
    exact_by (λ (p : PolicyMapping). (p.issuer_domain_policy, p.subject_domain_policy))
    (λ (issuer_domain_policy, subject_domain_policy). record { issuer_domain_policy = issuer_domain_policy; subject_domain_policy = subject_domain_policy })
    (λ p. refl) (exact_both exact_octets exact_octets)

pub exact_policy_mappings : IsExact policy_mappings_eq.ghosts.eq
exact_policy_mappings = exact_by (λ (p : PolicyMappings). p.0) (λ x. record { 0 = x }) (λ p. refl) (exact_list exact_policy_mapping)

pub exact_policy_constraints : IsExact policy_constraints_eq.ghosts.eq
exact_policy_constraints =
    exact_by (λ (p : PolicyConstraints). (p.require_explicit_policy, p.inhibit_policy_mapping))
    (λ (require_explicit_policy, inhibit_policy_mapping). record { require_explicit_policy = require_explicit_policy; inhibit_policy_mapping = inhibit_policy_mapping })
    (λ p. refl) (exact_both (exact_option exact_number) (exact_option exact_number))

pub exact_inhibit_any_policy : IsExact inhibit_any_policy_eq.ghosts.eq
exact_inhibit_any_policy = exact_by (λ (i : InhibitAnyPolicy). i.0) (λ x. record { 0 = x }) (λ i. refl) exact_number
