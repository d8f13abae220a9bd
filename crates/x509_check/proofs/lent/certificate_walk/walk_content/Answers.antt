use Rattle.std.proofs.Common.{refl}
use Rattle.x509_cert.specs.Certificate.{certificate_fields}
use Rattle.x509_cert.specs.TbsCertificate.{tbs_certificate, tbs_certificate_fields, tbs_certificate_lawful}
use Rattle.x509_check.proofs.LentFields.{front_is}
use Rattle.x509_der.specs.Frames.{fields_octets, fields_reading}
use Rattle.x509_check.proofs.lent.certificate_walk.walk_content.Goals as goal

pub returns-in_ok-end-in-Ok : goal.returns-in_ok-end-in-Ok
unfolding certificate_fields tbs_certificate_fields fields_octets fields_reading
returns-in_ok-end-in-Ok g c =
    let part = c.in-Ok.ensures.exact in
    let algorithm = c.in_ok-signature_algorithm-in-Ok.ensures.exact in
    let signature = c.in_ok-signature-in-Ok.ensures.exact in
    let front = front_is (tbs_certificate {P = g.row.P.Denot} g.P.Profile.serial_check) (tbs_certificate_lawful g.P.Profile.serial_check) _ _ part.0 part.1 in (
      record { tbs_certificate = part.0; signature_algorithm = algorithm.0; signature = signature.0 },
      rw (part.1, algorithm.1, signature.1, c.in_ok-end-in-Ok.ensures.exact) refl,
      (rw (front, part.2.0, algorithm.2, signature.2) refl, part.2.1, part.2.2),
    )
