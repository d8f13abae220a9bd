use Rattle.std.proofs.Common.{◌++◌, ◌∙◌, not, is_some, refl, ap}
use Rattle.x509_base.specs.AlgorithmIdentifier.{algorithm_identifier}
use Rattle.x509_base.specs.Serial.{serial_number}
use Rattle.x509_base.specs.SubjectPublicKeyInfo.{subject_public_key_info}
use Rattle.x509_base.specs.Profiles.{rfc5280_serial_number}
use Rattle.x509_base.specs.Validity.{validity}
use Rattle.x509_c_calls.proofs.AnchorFields.{is_explicit_3, ten}
use Rattle.x509_c_calls.proofs.anchor.part.PartViewView.view.Goals as goal
use Rattle.x509_c_calls.specs.AnchorParts.{behind_key, behind_subject}
use Rattle.x509_c_calls.proofs.Parts.{is_integer, is_sequence, issuer_field, same_presence, subject_field, version_field}
use Rattle.x509_c_calls.proofs.Optional.{content_at}
use Rattle.x509_cert.specs.TbsCertificate.{tbs_certificate, tbs_certificate_fields}
use Rattle.x509_cert.specs.Version.{is_first, version, version_default}
use Rattle.x509_der.specs.Frames.{default_octets, explicit, fields_octets, implicit, optional_octets}
use Rattle.x509_der.specs.Form.{spelling}
use Rattle.x509_ext.specs.Extension.{extensions}
use Rattle.x509_name.specs.Names.{name}
use Rattle.x509_prim.specs.BitString.{bit_string}

pub returns : goal.returns
unfolding fields_octets tbs_certificate_fields
returns c = λ behind e.
    let it = c.args.value.now in
    let version_text = default_octets version_default (spelling (explicit 0 version)) it.version in
    let serial_text = spelling (serial_number rfc5280_serial_number) it.serial_number in
    let algorithm_text = spelling algorithm_identifier it.signature in
    let issuer_text = spelling name it.issuer in
    let dates_text = spelling validity it.validity in
    let subject_text = spelling name it.subject in
    let key_text = spelling subject_public_key_info it.subject_public_key_info in
    let issuer_id_text = optional_octets (spelling (implicit 1 bit_string)) it.issuer_unique_id in
    let subject_id_text = optional_octets (spelling (implicit 2 bit_string)) it.subject_unique_id in
    let extensions_text = optional_octets (spelling (explicit 3 extensions)) it.extensions in
    let from_subject = subject_text ++ behind_subject it behind in
    let inside = c.enter.ensures.stands 48 ((tbs_certificate rfc5280_serial_number).content it) behind is_sequence e in
    let laid_out = inside.1 ∙ ten version_text serial_text algorithm_text issuer_text dates_text subject_text key_text issuer_id_text subject_id_text extensions_text behind in
    let versioned = c.step.ensures.stands version_text (serial_text ++ (algorithm_text ++ (issuer_text ++ (dates_text ++ from_subject)))) (version_field it.version _ (c.is_written.ensures ∙ ap (λ v. not (is_first v)) c.version.ensures)) laid_out in
    let serial = c.step-2.ensures.stands serial_text (algorithm_text ++ (issuer_text ++ (dates_text ++ from_subject))) (2, it.serial_number, is_integer, refl) versioned.1 in
    let algorithm = c.step-3.ensures.stands algorithm_text (issuer_text ++ (dates_text ++ from_subject)) (48, algorithm_identifier.content it.signature, is_sequence, refl) serial.1 in
    let issuer = c.step-4.ensures.stands issuer_text (dates_text ++ from_subject) (48, name.content it.issuer, is_sequence, refl) algorithm.1 in
    let dates = c.step-5.ensures.stands dates_text from_subject (48, validity.content it.validity, is_sequence, refl) issuer.1 in
    let subject = c.step-subject.ensures.stands subject_text (behind_subject it behind) (48, name.content it.subject, is_sequence, refl) dates.1 in
    let key = c.step-subject_public_key_info.ensures.stands key_text (behind_key it behind) (48, subject_public_key_info.content it.subject_public_key_info, is_sequence, refl) subject.1 in
    let issuer_id = c.step-6.ensures.stands issuer_id_text (subject_id_text ++ (extensions_text ++ behind)) (issuer_field it.issuer_unique_id _ (c.is_some.ensures ∙ ap is_some c.issuer_unique_id.ensures)) key.1 in
    let subject_id = c.step-7.ensures.stands subject_id_text (extensions_text ++ behind) (subject_field it.subject_unique_id _ (c.is_some-2.ensures ∙ ap is_some c.subject_unique_id.ensures)) issuer_id.1 in
    let present = c.is_some-3.ensures ∙ same_presence c.extensions.result it.extensions c.extensions.ensures in
    let others = content_at (explicit 3 extensions) (λ v. is_explicit_3) it.extensions _ behind _ _ _ _ present subject_id.1 c.step_optional_content.ensures.there c.step_optional_content.ensures.absent in
    record { subject = subject.0; subject_public_key_info = key.0; extensions = others.0 }
