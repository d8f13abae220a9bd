use Rattle.std.proofs.Common.{refl, ap}
use Rattle.x509_cert.specs.TbsCertificate.{tbs_certificate_fields}
use Rattle.x509_der.specs.Frames.{fields_reading}
use Rattle.x509_check.proofs.lent.certificate_walk.walk_fields.Goals as goal

pub returns : goal.returns
unfolding tbs_certificate_fields fields_reading
returns g c =
    let version = c.in_ok-version.ensures.exact in
    let serial_number = c.in_ok-serial_number.ensures.exact in
    let signature = c.in_ok-signature.ensures.exact in
    let issuer = c.in_ok-issuer.ensures.exact in
    let dates = c.in-Ok.ensures.exact in
    let subject = c.in_ok-subject.ensures.exact in
    let key = c.in_ok-subject_public_key_info.ensures.exact in
    let issuer_id = c.in_ok-issuer_unique_id.ensures.exact in
    let subject_id = c.in_ok-subject_unique_id.ensures.exact in
    let extensions = c.in_ok-extensions.ensures.exact in (
      record { version = version.0; serial_number = serial_number.0; signature = signature.0; issuer = issuer.0; validity = dates.0; subject = subject.0; subject_public_key_info = key.0; issuer_unique_id = issuer_id.0; subject_unique_id = subject_id.0; extensions = extensions.0 },
      rw (version.1, serial_number.1, signature.1, issuer.1, dates.1, subject.1, key.1, issuer_id.1, subject_id.1, extensions.1, c.in_ok-end.ensures.exact) refl,
      (rw (version.2, serial_number.2, signature.2, issuer.2, dates.2.0, subject.2, key.2, issuer_id.2, subject_id.2, extensions.2) refl, ap (λ v. v.not_before) dates.2.1, ap (λ v. v.not_after) dates.2.1),
    )
