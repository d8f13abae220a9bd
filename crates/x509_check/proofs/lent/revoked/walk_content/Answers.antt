use Rattle.std.proofs.Common.{refl}
use Rattle.x509_cert.specs.CertificateList.{tbs_cert_list_fields}
use Rattle.x509_der.specs.Frames.{fields_reading}
use Rattle.x509_check.proofs.lent.revoked.walk_content.Goals as goal

pub returns-in_ok-end-in-Ok : goal.returns-in_ok-end-in-Ok
unfolding tbs_cert_list_fields fields_reading
returns-in_ok-end-in-Ok g c =
    let signature = c.in_ok-signature.ensures.exact in
    let issuer = c.in_ok-issuer.ensures.exact in
    let revoked = c.in-Ok.ensures.exact in
    let extensions = c.in_ok-crl_extensions-in-Ok.ensures.exact in (
      record { version = c.in_ok-version.version; signature = signature.0; issuer = issuer.0; this_update = c.in_ok-this_update.this_update; next_update = c.in_ok-next_update.next_update; revoked_certificates = revoked.0; crl_extensions = extensions.0 },
      rw (c.in_ok-version.ensures.exact, signature.1, issuer.1, c.in_ok-this_update.ensures.exact, c.in_ok-next_update.ensures.exact, revoked.1, extensions.1, c.in_ok-end-in-Ok.ensures.exact) refl,
      (revoked.2.0, rw (signature.2, issuer.2, revoked.2.1, revoked.2.2, revoked.2.3, extensions.2) refl),
    )
