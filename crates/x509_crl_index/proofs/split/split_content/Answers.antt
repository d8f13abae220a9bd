use Rattle.std.proofs.Common.{refl}
use Rattle.x509_cert.specs.CertificateList.{certificate_list_fields}
use Rattle.x509_der.specs.Frames.{fields_reading}
use Rattle.x509_crl_index.proofs.split.split_content.Goals as goal

pub returns-in_ok-end-in-Ok : goal.returns-in_ok-end-in-Ok
unfolding certificate_list_fields fields_reading
returns-in_ok-end-in-Ok c =
    let part = c.in-Ok.ensures in
    let algorithm = c.in_ok-signature_algorithm-in-Ok in
    let signature = c.in_ok-signature-in-Ok in (
      record { tbs_cert_list = part.0; signature_algorithm = algorithm.signature_algorithm; signature = signature.signature },
      rw (part.1, algorithm.ensures.exact, signature.ensures.exact, c.in_ok-end-in-Ok.ensures.exact) refl,
      (rw part.2.0 refl, part.2.1),
    )
