-- Equality of trust anchors, of their descriptions and of the constraints on paths from them is exact, under every profile.
use Rattle.std.specs.Cmp.Lexicographic.{pointwise}
use Rattle.std.specs.Option.{option_eq}
use Rattle.std.specs.Prelude.{Bool, bytes_eq, nat_eq, refl, ◌&&◌}
use Rattle.x509_base.specs.Equality.{exact_subject_public_key_info}
use Rattle.x509_base.specs.contracts.subject_public_key_info.SubjectPublicKeyInfoPartialEq.TheImpl as key_eq
use Rattle.x509_cert.specs.contracts.anchor.cert_policies.CertPoliciesPartialEq.TheImpl as cert_policies_eq
use Rattle.x509_cert.specs.contracts.anchor.version.VersionPartialEq.TheImpl as version_eq
use Rattle.x509_cert.specs.declared.anchor.cert_path_controls.CertPathControls.{CertPathControls}
use Rattle.x509_cert.specs.declared.anchor.cert_policies.CertPolicies.{CertPolicies}
use Rattle.x509_cert.specs.declared.anchor.trust_anchor_info.TrustAnchorInfo.{TrustAnchorInfo}
use Rattle.x509_cert.specs.declared.anchor.version.Version.TheVariants.{V1}
use Rattle.x509_cert.specs.CertificateEquality.{certificate_eq, exact_certificate}
use Rattle.x509_der.specs.Exact.{IsExact, exact_number, exact_octets, exact_list, exact_option, exact_both, exact_by}
use Rattle.x509_ext.specs.ExtensionEquality.{exact_extension}
use Rattle.x509_ext.specs.contracts.extension.ExtensionPartialEq.TheImpl as extension_eq
use Rattle.x509_name.specs.Names.{rdn_sequence_eq, rdn_sequence_decides}
use Rattle.x509_ext.specs.RevocationEquality.{exact_name_constraints}
use Rattle.x509_ext.specs.contracts.pkix.name_constraints.NameConstraintsPartialEq.TheImpl as name_constraints_eq
use Rattle.x509_ext.specs.PolicyEquality.{exact_certificate_policies}
use Rattle.x509_ext.specs.contracts.pkix.certificate_policies.CertificatePoliciesPartialEq.TheImpl as certificate_policies_eq

pub exact_version : IsExact version_eq.ghosts.eq
exact_version V1 V1 = (λ e. refl, λ e. refl)

pub exact_cert_policies : IsExact cert_policies_eq.ghosts.eq
exact_cert_policies = exact_by (λ (c : CertPolicies). c.0) (λ x. record { 0 = x }) (λ c. refl) exact_number

-- what `==` asks of what is asked of paths
abbrev pub cert_path_controls_eq : {P : Type 0} → CertPathControls P → CertPathControls P → Bool
cert_path_controls_eq a b =
    rdn_sequence_eq a.ta_name b.ta_name && (
    option_eq certificate_eq a.certificate b.certificate && (
    option_eq certificate_policies_eq.ghosts.eq a.policy_set b.policy_set && (
    option_eq cert_policies_eq.ghosts.eq a.policy_flags b.policy_flags && (
    option_eq name_constraints_eq.ghosts.eq a.name_constr b.name_constr &&
    option_eq nat_eq a.path_len_constraint b.path_len_constraint))))

pub exact_cert_path_controls : {P : Type 0} → IsExact (cert_path_controls_eq {P = P})
exact_cert_path_controls {P} =
    exact_by (λ (c : CertPathControls P). (c.ta_name, (c.certificate, (c.policy_set, (c.policy_flags, (c.name_constr, c.path_len_constraint))))))
    (λ (ta_name, (certificate, (policy_set, (policy_flags, (name_constr, path_len_constraint))))). record { ta_name = ta_name; certificate = certificate; policy_set = policy_set; policy_flags = policy_flags; name_constr = name_constr; path_len_constraint = path_len_constraint })
    (λ c. refl) (exact_both rdn_sequence_decides (exact_both (exact_option exact_certificate) (exact_both (exact_option exact_certificate_policies) (exact_both (exact_option exact_cert_policies) (exact_both (exact_option exact_name_constraints) (exact_option exact_number))))))

-- what `==` asks of what is said of anchors
abbrev pub trust_anchor_info_eq : {P : Type 0} → TrustAnchorInfo P → TrustAnchorInfo P → Bool
trust_anchor_info_eq a b =
    version_eq.ghosts.eq a.version b.version && (
    key_eq.ghosts.eq a.pub_key b.pub_key && (
    bytes_eq a.key_id b.key_id && (
    option_eq bytes_eq a.ta_title b.ta_title && (
    option_eq cert_path_controls_eq a.cert_path b.cert_path && (
    option_eq (pointwise extension_eq.ghosts.eq) a.extensions b.extensions &&
    option_eq bytes_eq a.ta_title_lang_tag b.ta_title_lang_tag)))))

pub exact_trust_anchor_info : {P : Type 0} → IsExact (trust_anchor_info_eq {P = P})
exact_trust_anchor_info {P} =
    exact_by (λ (t : TrustAnchorInfo P). (t.version, (t.pub_key, (t.key_id, (t.ta_title, (t.cert_path, (t.extensions, t.ta_title_lang_tag)))))))
    (λ (version, (pub_key, (key_id, (ta_title, (cert_path, (extensions, ta_title_lang_tag)))))). record { version = version; pub_key = pub_key; key_id = key_id; ta_title = ta_title; cert_path = cert_path; extensions = extensions; ta_title_lang_tag = ta_title_lang_tag })
    (λ t. refl) (exact_both exact_version (exact_both exact_subject_public_key_info (exact_both exact_octets (exact_both (exact_option exact_octets) (exact_both (exact_option exact_cert_path_controls) (exact_both (exact_option (exact_list exact_extension)) (exact_option exact_octets)))))))
