use Rattle.std.proofs.Common.{◌++◌, ◌∙◌, refl}
use Rattle.x509_base.specs.Serial.{serial_number}
use Rattle.x509_base.specs.Profiles.{rfc5280_serial_number}
use Rattle.x509_base.specs.Time.{time}
use Rattle.x509_c_calls.proofs.CrlFields.{is_integer, is_time, three}
use Rattle.x509_c_calls.proofs.crl.entry.CrlEntryViewView.view.Goals as goal
use Rattle.x509_c_calls.specs.CrlEntries.{extensions_text}
use Rattle.x509_c_calls.proofs.Octets.{is_sequence}
use Rattle.x509_c_calls.proofs.Optional.{element_at}
use Rattle.x509_cert.specs.RevokedCert.{revoked_cert, revoked_cert_fields}
use Rattle.x509_der.specs.Frames.{fields_octets}
use Rattle.x509_der.specs.Form.{spelling}
use Rattle.x509_ext.specs.Extension.{extensions}

pub returns : goal.returns
unfolding fields_octets revoked_cert_fields
returns c = λ behind e.
    let it = c.args.value.now in
    let serial_text = spelling (serial_number rfc5280_serial_number) it.serial_number in
    let date_text = spelling time it.revocation_date in
    let inside = c.enter.ensures.stands 48 ((revoked_cert rfc5280_serial_number).content it) behind is_sequence e in
    let serial = c.step-serial_number.ensures.stands serial_text (date_text ++ (extensions_text it ++ behind)) (2, it.serial_number, is_integer, refl) (inside.1 ∙ three serial_text date_text (extensions_text it) behind) in
    let date = c.step.ensures.stands date_text (extensions_text it ++ behind) (time.tag it.revocation_date, time.content it.revocation_date, is_time it.revocation_date, refl) serial.1 in
    let others = element_at extensions (λ v. is_sequence) it.crl_entry_extensions _ behind _ _ _ _ c.is_some.ensures date.1 c.step_optional.ensures.there c.step_optional.ensures.absent in
    record { serial_number = serial.0; date = c.seconds.ensures; extensions = others.0 }
