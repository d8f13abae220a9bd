use Rattle.std.proofs.Common.{◌^◌, ◌++◌, ◌∙◌, refl}
use Rattle.x509_base.specs.Profiles.{rfc5280_serial_number}
use Rattle.x509_c_calls.proofs.AnchorFields.{six}
use Rattle.x509_c_calls.proofs.anchor.controls.PathControlsViewView.view.Goals as goal
use Rattle.x509_c_calls.specs.Controls.{behind_name, behind_names, behind_policies, certificate_text, flags_text, names_text, policies_text}
use Rattle.x509_c_calls.proofs.Octets.{is_explicit_0, is_implicit_2, is_list_1, is_sequence}
use Rattle.x509_c_calls.proofs.Optional.{element_at, is_field}
use Rattle.x509_cert.specs.CertPathControls.{cert_path_controls, cert_path_controls_fields}
use Rattle.x509_cert.specs.CertPolicies.{cert_policies}
use Rattle.x509_cert.specs.Certificate.{certificate}
use Rattle.x509_der.specs.Frames.{fields_octets, implicit, optional_octets}
use Rattle.x509_der.specs.Form.{spelling}
use Rattle.x509_der.specs.Natural.{natural}
use Rattle.x509_name.specs.Names.{name}
use Rattle.x509_ext.specs.CertificatePolicies.{certificate_policies}

pub returns : goal.returns
unfolding fields_octets cert_path_controls_fields
returns c = λ behind e.
    let it = c.args.value.now in
    let inside = c.enter.ensures.stands 48 ((cert_path_controls rfc5280_serial_number).content it) behind is_sequence e in
    let laid_out = inside.1 ∙ six (spelling name it.ta_name) (certificate_text it) (policies_text it) (flags_text it) (names_text it.name_constr) (optional_octets (spelling (implicit 4 (natural (2 ^ 32)))) it.path_len_constraint) behind in
    let named = c.step-name.ensures.stands (spelling name it.ta_name) (behind_name it behind) (48, name.content it.ta_name, is_sequence, refl) laid_out in
    let whole = element_at (implicit 0 (certificate rfc5280_serial_number)) (λ v. is_explicit_0) it.certificate _ (policies_text it ++ behind_policies it behind) _ _ _ _ c.is_some.ensures named.1 c.step_optional-certificate.ensures.there c.step_optional-certificate.ensures.absent in
    let policies = element_at (implicit 1 certificate_policies) (λ v. is_list_1) it.policy_set _ (behind_policies it behind) _ _ _ _ c.is_some-2.ensures whole.1 c.step_optional-policies.ensures.there c.step_optional-policies.ensures.absent in
    let flags = c.step.ensures.stands (flags_text it) (names_text it.name_constr ++ behind_names it behind) (is_field (implicit 2 cert_policies) (λ v. is_implicit_2) it.policy_flags _ c.is_some-3.ensures) policies.1 in
    record {
      name = named.0;
      certificate = whole.0;
      policies = policies.0;
      policy_flags = c.flag_bits-has_policy_flags.ensures;
      names = c.step_names.ensures (behind_names it behind) flags.1;
      path_len = c.optional_number-has_path_len.ensures;
    }
