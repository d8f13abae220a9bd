use Rattle.std.proofs.Common.{refl}
use Rattle.x509_cert.specs.RevokedCert.{revoked_cert_fields}
use Rattle.x509_der.specs.Frames.{fields_reading}
use Rattle.x509_check.proofs.lent.entry.pass_content.Goals as goal

pub returns : goal.returns
unfolding revoked_cert_fields fields_reading
returns g c =
    let date = c.in_ok-check_field.ensures.exact in
    let extensions = c.in_ok-is_marked.ensures in (
      record { serial_number = c.in_ok-serial_number.serial_number.now; revocation_date = date.0; crl_entry_extensions = extensions.0 },
      rw (c.in_ok-serial_number.ensures.exact, date.1, extensions.1, c.in_ok-end.ensures.exact) refl,
      (refl, extensions.2),
    )
