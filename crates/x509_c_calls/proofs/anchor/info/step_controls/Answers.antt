use Rattle.std.proofs.Common.{◌^◌, ◌∙◌, refl}
use Rattle.x509_base.specs.Profiles.{rfc5280_serial_number}
use Rattle.x509_c_calls.proofs.AnchorFields.{six}
use Rattle.x509_c_calls.proofs.anchor.info.step_controls.Goals as goal
use Rattle.x509_c_calls.specs.Controls.{behind_name, certificate_text, flags_text, names_text, policies_text}
use Rattle.x509_c_calls.proofs.Octets.{is_sequence}
use Rattle.x509_cert.specs.CertPathControls.{cert_path_controls, cert_path_controls_fields}
use Rattle.x509_der.specs.Frames.{fields_octets, implicit, optional_octets}
use Rattle.x509_der.specs.Form.{spelling}
use Rattle.x509_der.specs.Natural.{natural}
use Rattle.x509_name.specs.Names.{name}

pub returns-in-Some-clause-stands : goal.returns-in-Some-clause-stands
unfolding fields_octets cert_path_controls_fields
returns-in-Some-clause-stands c = λ more e.
    let it = c.in-Some._controls in
    let here = rw c.in-Some.is at e in
    let content = (cert_path_controls rfc5280_serial_number).content it in
    let inside = c.enter.ensures.stands 48 content more is_sequence here in
    let whole = c.step.ensures.stands (spelling (cert_path_controls rfc5280_serial_number) it) more (48, content, is_sequence, refl) here in
    let laid_out = inside.1 ∙ six (spelling name it.ta_name) (certificate_text it) (policies_text it) (flags_text it) (names_text it.name_constr) (optional_octets (spelling (implicit 4 (natural (2 ^ 32)))) it.path_len_constraint) more in
    let named = c.step-in-Some.ensures.stands (spelling name it.ta_name) (behind_name it more) (48, name.content it.ta_name, is_sequence, refl) laid_out in
    rw c.in-Some.is ((whole.0, named.0), whole.1)
