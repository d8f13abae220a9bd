use Rattle.std.proofs.Common.{inl, inr, ap, ◌∙◌}
use Rattle.x509_check.proofs.LentCertificates.{some_certificate}
use Rattle.x509_text.specs.Objects.{any_serial}
use Rattle.x509_show.proofs.timestamps.write_certificate.Goals as goal

pub returns-in-Ok-from_certificate : goal.returns-in-Ok-from_certificate
returns-in-Ok-from_certificate g c =
    let found = c.in-Ok.ensures.found in
    let above = some_certificate any_serial c.args.issuer.now.bytes.now c.args.issuer.now.within c.args.issuer.now.checked in
    let embedded = c.in-Ok-from_certificate.ensures.found found.1.0 above.0 (rw found.0 found.1.1) above.1 in
    let part = c.in-Ok-from_certificate.embedded.tbs_certificate.items in
    inl (
      c.entry.result,
      c.timestamps.result.now,
      record {
        whole = found.1.0;
        above = above.0;
        read = found.1.1;
        read_above = above.1;
        part = part;
        one = embedded.one;
        cut = embedded.octets;
        entry_is = c.entry.ensures.is ∙ ap (λ hash. inr (hash, part)) embedded.key_hash;
        are = rw c.timestamps.ensures embedded.timestamps;
      },
      c.write_lines.ensures,
    )
