use Rattle.std.proofs.Common.{ap, ◌∙◌}
use Rattle.x509_der.specs.Tag.{octet_of}
use Rattle.x509_name.proofs.ShortRdns.{short_spelling}
use Rattle.x509_name.proofs.name.short.put_rdn.Goals as goal

pub returns-then-content-lt-LONG : goal.returns-then-content-lt-LONG
returns-then-content-lt-LONG g c =
    rw (short_spelling c.args.rdn.now c.as_slice.result.now c.attribute-item.result c.as_bytes.result.now c.value-content.result.now c.octet.result c.as_slice.ensures.members c.in-len1.len_at_least c.in-len1.len_below c.attribute-item.is c.as_bytes.ensures.octets c.in-len3.len_at_least c.in-len3.len_below (c.octet.ensures.octet ∙ ap octet_of c.tag.ensures) c.value-content.ensures) c.put_short.ensures
