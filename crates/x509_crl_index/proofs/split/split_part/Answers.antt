use Rattle.std.proofs.Common.{ap, refl, ◌∙◌}
use Rattle.x509_cert.specs.CertificateList.{tbs_cert_list_fields}
use Rattle.x509_crl_index.specs.Split.{read_entries}
use Rattle.x509_crl_index.proofs.KeptLists.{is_emptied, is_read}
use Rattle.x509_der.specs.Frames.{fields_reading}
use Rattle.x509_crl_index.proofs.split.split_part.Goals as goal

pub returns : goal.returns
unfolding tbs_cert_list_fields fields_reading
returns c =
    let version = c.in_ok-version in
    let signature = c.in_ok-signature in
    let issuer = c.in_ok-issuer in
    let this_update = c.in_ok-this_update in
    let next_update = c.in_ok-next_update in
    let revoked = c.in_ok-list.ensures in
    let extensions = c.in_ok-crl_extensions in (
      record { version = version.version; signature = signature.signature; issuer = issuer.issuer; this_update = this_update.this_update; next_update = next_update.next_update; revoked_certificates = revoked.0; crl_extensions = extensions.crl_extensions },
      rw (version.ensures.exact, signature.ensures.exact, issuer.ensures.exact, this_update.ensures.exact, next_update.ensures.exact, revoked.1, extensions.ensures.exact, c.in_ok-end.ensures.exact) refl,
      (rw (c.emptied.ensures, is_emptied _ _ revoked.2) refl, ap read_entries c.kept_octets.ensures ∙ is_read _ _ revoked.2),
    )
