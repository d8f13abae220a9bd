use Rattle.std.proofs.Common.{length, refl, ap, ◌∙◌}
use Rattle.x509_c_calls.proofs.LeafParts.{certificate_at, certificate_entry, extensions_at, hash_at, others_at, part_at, precertificate_entry}
use Rattle.x509_c_calls.proofs.log.leaf.leaf_of.Goals as goal

pub returns-in-X509 : goal.returns-in-X509
returns-in-X509 c = λ bytes spells.
    let len = ap length c.as_slice-len.ensures.value in
    let others = ap length c.as_slice-extensions.ensures.value in
    let at = certificate_at bytes _ spells c.in-X509.certificate c.in-X509.is _ len in
    record {
      version = c.from-version.ensures ∙ c.byte.ensures;
      leaf_type = c.from-leaf_type.ensures ∙ c.byte-2.ensures;
      timestamp = refl;
      entry = certificate_entry bytes _ spells c.in-X509.certificate c.in-X509.is _ refl refl at;
      extensions = extensions_at bytes _ spells c.in-X509.certificate c.in-X509.is _ _ len others;
    }

pub returns-in-Precert : goal.returns-in-Precert
returns-in-Precert c = λ bytes spells.
    let len = ap length c.as_slice-len-in-Precert.ensures.value in
    let others = ap length c.as_slice-extensions.ensures.value in
    let hash = hash_at bytes _ spells c.in-Precert.precertificate c.in-Precert.is in
    let at = part_at bytes _ spells c.in-Precert.precertificate c.in-Precert.is _ len in
    record {
      version = c.from-version.ensures ∙ c.byte.ensures;
      leaf_type = c.from-leaf_type.ensures ∙ c.byte-2.ensures;
      timestamp = refl;
      entry = precertificate_entry bytes _ spells c.in-Precert.precertificate c.in-Precert.is _ refl hash at;
      extensions = others_at bytes _ spells c.in-Precert.precertificate c.in-Precert.is _ _ len others;
    }
