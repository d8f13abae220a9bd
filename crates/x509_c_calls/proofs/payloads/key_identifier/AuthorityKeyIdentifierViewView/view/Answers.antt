use Rattle.std.proofs.Common.{◌++◌, ◌∙◌, ap, append_assoc}
use Rattle.x509_base.specs.Serial.{serial_number}
use Rattle.x509_base.specs.Profiles.{rfc5280_serial_number}
use Rattle.x509_c_calls.proofs.Octets.{is_implicit_0, is_implicit_2, is_list_1, is_sequence}
use Rattle.x509_c_calls.proofs.Optional.{content_at, element_at}
use Rattle.x509_c_calls.proofs.payloads.key_identifier.AuthorityKeyIdentifierViewView.view.Goals as goal
use Rattle.x509_c_calls.specs.KeyIdentifiers.{issuer_text, serial_text}
use Rattle.x509_der.specs.Frames.{fields_octets, implicit, optional_octets}
use Rattle.x509_der.specs.Form.{spelling}
use Rattle.x509_ext.specs.AuthorityKeyIdentifier.{authority_key_identifier, authority_key_identifier_fields}
use Rattle.x509_ext.specs.GeneralName.{general_names}
use Rattle.x509_prim.specs.OctetString.{octet_string}

pub returns : goal.returns
unfolding fields_octets authority_key_identifier_fields
returns c = λ behind e.
    let it = c.args.value.now in
    let first = optional_octets (spelling (implicit 0 octet_string)) it.key_identifier in
    let inside = c.enter.ensures.stands 48 (authority_key_identifier.content it) behind is_sequence e in
    let laid_out = append_assoc first (issuer_text it ++ serial_text it) behind ∙ ap (λ x. first ++ x) (append_assoc (issuer_text it) (serial_text it) behind) in
    let key = content_at (implicit 0 octet_string) (λ v. is_implicit_0) it.key_identifier _ (issuer_text it ++ (serial_text it ++ behind)) _ _ _ _ c.is_some.ensures (inside.1 ∙ laid_out) c.step_optional_content.ensures.there c.step_optional_content.ensures.absent in
    let issuer = element_at (implicit 1 general_names) (λ v. is_list_1) it.authority_cert_issuer _ (serial_text it ++ behind) _ _ _ _ c.is_some-2.ensures key.1 c.step_optional.ensures.there c.step_optional.ensures.absent in
    let serial = content_at (implicit 2 (serial_number rfc5280_serial_number)) (λ v. is_implicit_2) it.authority_cert_serial_number _ behind _ _ _ _ c.is_some-3.ensures issuer.1 c.step_optional_content-2.ensures.there c.step_optional_content-2.ensures.absent in
    record { key_identifier = key.0; issuer = issuer.0; serial_number = serial.0 }
