use Rattle.std.proofs.Common.{refl}
use Rattle.x509_cert.specs.CertificateList.{certificate_list_fields, tbs_cert_list, tbs_cert_list_lawful}
use Rattle.x509_check.proofs.LentFields.{front_is}
use Rattle.x509_der.specs.Frames.{fields_reading}
use Rattle.x509_check.proofs.lent.revoked.walk_list.Goals as goal

pub returns-in_ok-end-in-Ok : goal.returns-in_ok-end-in-Ok
unfolding certificate_list_fields fields_reading
returns-in_ok-end-in-Ok g c =
    let part = c.in-Ok.ensures.exact in
    let algorithm = c.in_ok-signature_algorithm-in-Ok.ensures.exact in
    let signature = c.in_ok-signature-in-Ok.ensures.exact in
    let front = front_is (tbs_cert_list {P = g.row.P.Denot} g.P.Profile.serial_check) (tbs_cert_list_lawful g.P.Profile.serial_check) _ _ part.0 part.1 in (
      record { tbs_cert_list = part.0; signature_algorithm = algorithm.0; signature = signature.0 },
      rw (part.1, algorithm.1, signature.1, c.in_ok-end-in-Ok.ensures.exact) refl,
      (part.2.0, rw (front, part.2.1, algorithm.2, signature.2) refl),
    )
