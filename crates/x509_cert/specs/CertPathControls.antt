-- CertPathControls: ta_name: Name, certificate: [0]CertificateInner?, policy_set: [1]CertificatePolicies?,
-- policy_flags: [2]CertPolicies?, name_constr: [3]NameConstraints?, path_len_constraint: [4]u32? (RFC 5914 2.5)
use Rattle.std.specs.Prelude.{ℕ, ◌^◌, List, Option, Result, refl}
use Rattle.x509_base.specs.Checked.{CheckRefuses}
use Rattle.x509_cert.specs.Certificate.{certificate, certificate_lawful}
use Rattle.x509_cert.specs.declared.certificate.certificate.CertificateInner.{CertificateInner}
use Rattle.x509_der.specs.declared.error.ErrorKind.{ErrorKind}
use Rattle.x509_der.specs.declared.tag.Tag.TheVariants.{Sequence}
use Rattle.x509_der.specs.Frames.{Part, required, optional, implicit, ◌⊗◌, fields, fields_good}
use Rattle.x509_der.specs.PartRules.{part_rules}
use Rattle.x509_der.specs.Form.{Form, IsForm, Contents, IsContents, universal}
use Rattle.x509_der.specs.FormLaws.{universal_lawful}
use Rattle.x509_der.specs.Natural.{natural}
use Rattle.x509_der.specs.StableLaws.{in_option_stable}
use Rattle.x509_der.specs.Writing.{Writing, in_option, IsStable}
use Rattle.x509_name.specs.declared.attr.type_and_value.AttributeTypeAndValue.{AttributeTypeAndValue}
use Rattle.x509_name.specs.Names.{name, rdn_sequence_lawful}
use Rattle.x509_ext.specs.NameConstraints.{name_constraints, name_constraints_lawful}
use Rattle.x509_ext.specs.declared.pkix.name_constraints.NameConstraints.{NameConstraints}
use Rattle.x509_ext.specs.CertificatePolicies.{certificate_policies, certificate_policies_lawful}
use Rattle.x509_ext.specs.declared.pkix.certificate_policies.CertificatePolicies.{CertificatePolicies}
use Rattle.x509_prim.specs.NamedBits.{flag_writing}
use Rattle.x509_cert.specs.CertPolicies.{cert_policies, cert_policies_lawful, cert_policies_set, cert_policies_names, cert_policies_stable}
use Rattle.x509_cert.specs.TwoFields.{with_two_fields, with_two_fields_stable}
use Rattle.x509_cert.specs.declared.anchor.cert_path_controls.CertPathControls.{CertPathControls}
use Rattle.x509_cert.specs.declared.anchor.cert_policies.CertPolicies.{CertPolicies}

-- ---- the grammar

abbrev pub Front : Type 0 → Type 0
Front P = List (List AttributeTypeAndValue) × (Option (CertificateInner P) × Option CertificatePolicies)

abbrev pub Behind : Type 0
Behind = Option CertPolicies × (Option NameConstraints × Option ℕ)

-- the fields up to the policies, and those behind them
abbrev pub cert_path_controls_front : {P : Type 0} → (List ℕ → Result Unit ErrorKind) → Part (Front P)
cert_path_controls_front check = required name ⊗ (optional (implicit 0 (certificate check)) ⊗ optional (implicit 1 certificate_policies))

abbrev pub cert_path_controls_behind : Part Behind
cert_path_controls_behind = optional (implicit 2 cert_policies) ⊗ (optional (implicit 3 name_constraints) ⊗ optional (implicit 4 (natural (2 ^ 32))))

unfoldable pub cert_path_controls_fields : {P : Type 0} → (List ℕ → Result Unit ErrorKind) → Part (Front P × Behind)
cert_path_controls_fields check = cert_path_controls_front check ⊗ cert_path_controls_behind

abbrev pub cert_path_controls_contents : {P : Type 0} → (List ℕ → Result Unit ErrorKind) → Contents (CertPathControls P)
cert_path_controls_contents check = fields
    (λ c. ((c.ta_name, (c.certificate, c.policy_set)), (c.policy_flags, (c.name_constr, c.path_len_constraint))))
    (λ ((ta_name, (certificate, policy_set)), (policy_flags, (name_constr, path_len_constraint))). record { ta_name = ta_name; certificate = certificate; policy_set = policy_set; policy_flags = policy_flags; name_constr = name_constr; path_len_constraint = path_len_constraint })
    (cert_path_controls_fields check)

abbrev pub cert_path_controls : {P : Type 0} → (List ℕ → Result Unit ErrorKind) → Form (CertPathControls P)
cert_path_controls check = universal Sequence (cert_path_controls_contents check)

pub cert_path_controls_contents_lawful : {P : Type 0} (check : List ℕ → Result Unit ErrorKind) → IsContents (CheckRefuses check) (cert_path_controls_contents {P = P} check)
unfolding cert_path_controls_fields
cert_path_controls_contents_lawful check = search (part_rules, rdn_sequence_lawful, certificate_lawful, certificate_policies_lawful, cert_policies_lawful, name_constraints_lawful) depth 20

pub cert_path_controls_lawful : {P : Type 0} (check : List ℕ → Result Unit ErrorKind) → IsForm (CheckRefuses check) (cert_path_controls {P = P} check)
cert_path_controls_lawful check = universal_lawful Sequence (cert_path_controls_contents check) (cert_path_controls_contents_lawful check)

-- ---- what is written

-- the certificate as it is written alone; flags with a bit without a name are refused
abbrev pub controls_writing : {P : Type 0} → Writing (CertificateInner P) → Writing (CertPathControls P)
controls_writing certificates = with_two_fields (λ c. c.certificate) (λ c. c.policy_flags) (λ c certificate flags. record c { certificate = certificate; policy_flags = flags }) (in_option certificates) (in_option (flag_writing cert_policies_set cert_policies_names))

pub cert_path_controls_stable : {P : Type 0} (check : List ℕ → Result Unit ErrorKind) (certificates : Writing (CertificateInner P)) → IsStable (certificate {P = P} check).good certificates → IsStable (cert_path_controls {P = P} check).good (controls_writing certificates)
unfolding cert_path_controls_fields fields_good
cert_path_controls_stable check certificates stable = with_two_fields_stable (λ c. c.certificate) (λ c. c.policy_flags) (λ c certificate flags. record c { certificate = certificate; policy_flags = flags }) (in_option certificates) (in_option (flag_writing cert_policies_set cert_policies_names))
    (λ c certificate flags. refl) (λ c certificate flags. refl) (λ c certificate other flags bits. refl)
    (λ c g. g.0.1.0) (λ c g. g.1.0) (λ c certificate flags g h k. ((g.0.0, (h, g.0.1.1)), (k, g.1.1)))
    (in_option_stable certificates stable) (in_option_stable _ cert_policies_stable)
