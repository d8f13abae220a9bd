use Rattle.std.proofs.Common.{length, ◌-◌, sym, ap, subst, ◌∙◌}
use Rattle.x509_base.specs.CivilTime.{unix_seconds}
use Rattle.x509_base.specs.Time.{date_time_of}
use Rattle.x509_base.specs.Profiles.{rfc5280_serial_number}
use Rattle.x509_c_calls.proofs.Ends.{algorithm_end, end_is, extensions_end, issuer_end, issuer_id_end, key_end, serial_number_end, subject_end, subject_id_end, validity_end}
use Rattle.x509_c_calls.proofs.Lent.{is_there, optional_len}
use Rattle.x509_c_calls.proofs.Octets.{is_implicit_1, is_implicit_2}
use Rattle.x509_c_calls.proofs.Parts.{bits_are}
use Rattle.x509_c_calls.proofs.certificate.view.view_of.Goals as goal
use Rattle.x509_c_calls.specs.View.{version_of}
use Rattle.x509_cert.specs.Certificate.{certificate}
use Rattle.x509_der.specs.Form.{Spells}
use Rattle.x509_der.specs.Frames.{implicit}
use Rattle.x509_prim.specs.BitString.{bit_string}

pub returns : goal.returns
returns c = λ value spells same validity_is.
    let part = value.tbs_certificate in
    let lent = subst (λ bytes. Spells (certificate rfc5280_serial_number) value bytes) (sym same) spells in
    let elements = c.slices-slices.ensures value lent in
    let version_is = c.version.ensures value lent in
    let ends = extensions_end _ value _ spells in
    let end = end_is _ _ _ _ _ _ _ ends (ap (λ e. length e.signature_algorithm) elements) (ap (λ e. length e.signature) elements) (c.saturating_sub-end.ensures ∙ ap (λ n. n - length c.slices-slices.result.now.signature.now) c.saturating_sub.ensures) in
    let list = c.step_back_over_extensions-extensions.ensures.stands part.extensions _ (ap (λ e. e.fields.extensions) elements) ends end in
    let subject_id = c.step_back.ensures.stands _ _ (subject_id_end _ value _ spells) (c.len_of.ensures ∙ optional_len (implicit 2 bit_string) _ part.subject_unique_id (ap (λ e. e.fields.subject_unique_id) elements)) list.1 in
    let issuer_id = c.step_back-2.ensures.stands _ _ (issuer_id_end _ value _ spells) (c.len_of-2.ensures ∙ optional_len (implicit 1 bit_string) _ part.issuer_unique_id (ap (λ e. e.fields.issuer_unique_id) elements)) subject_id.2 in
    let key = c.step_back-subject_public_key_info.ensures.stands _ _ (key_end _ value _ spells) (ap (λ e. length e.fields.subject_public_key_info) elements) issuer_id.2 in
    let subject = c.step_back-subject.ensures.stands _ _ (subject_end _ value _ spells) (ap (λ e. length e.fields.subject) elements) key.2 in
    let dates = c.step_back-3.ensures.stands _ _ (validity_end _ value _ spells) (ap (λ e. length e.fields.validity) elements) subject.2 in
    let issuer = c.step_back-issuer.ensures.stands _ _ (issuer_end _ value _ spells) (ap (λ e. length e.fields.issuer) elements) dates.2 in
    let signature = c.step_back-inner_algorithm.ensures.stands _ _ (algorithm_end _ value _ spells) (ap (λ e. length e.fields.signature) elements) issuer.2 in
    let serial = c.step_back-serial_number.ensures.stands _ _ (serial_number_end _ value _ spells) (ap (λ e. length e.fields.serial_number) elements) signature.2 in
    let subject_bits = bits_are 130 part.subject_unique_id _ _ _ _ _ _ is_implicit_2 (c.is_some.ensures ∙ is_there (implicit 2 bit_string) _ part.subject_unique_id (ap (λ e. e.fields.subject_unique_id) elements)) subject_id.1 c.optional_bits-subject_unused_bits.ensures.there c.optional_bits-subject_unused_bits.ensures.absent in
    let issuer_bits = bits_are 129 part.issuer_unique_id _ _ _ _ _ _ is_implicit_1 (c.is_some-2.ensures ∙ is_there (implicit 1 bit_string) _ part.issuer_unique_id (ap (λ e. e.fields.issuer_unique_id) elements)) issuer_id.1 c.optional_bits-issuer_unused_bits.ensures.there c.optional_bits-issuer_unused_bits.ensures.absent in
    record {
      version = c.version_number.ensures ∙ ap version_of version_is;
      serial_number = serial.0;
      issuer = issuer.0;
      subject = subject.0;
      subject_public_key_info = key.0;
      extensions = list.0;
      not_before = c.seconds.ensures ∙ ap (λ v. unix_seconds (date_time_of v.not_before)) validity_is;
      inner_algorithm = signature.0;
      issuer_unique_id = issuer_bits;
      subject_unique_id = subject_bits;
      not_after = c.seconds-2.ensures ∙ ap (λ v. unix_seconds (date_time_of v.not_after)) validity_is;
    }
