use Rattle.std.proofs.Common.{◌≡◌, ap, rules, ◌∙◌, sym}
use Rattle.x509_der.specs.Tag.{octet_of}
use Rattle.x509_der.specs.declared.tag.Tag.TheVariants.{BmpString}
use Rattle.x509_prim.specs.Bmp.{is_bmp}
use Rattle.x509_prim.proofs.Copies.{copied_text}
use Rattle.x509_prim.proofs.bmp.BmpStringFromAny.from_any.Goals as goal

pub returns : goal.returns
returns c =
    let same : c.tag.result ≡ BmpString = search rules in
    copied_text BmpString is_bmp c.args.any.now c.copied.result (ap octet_of (sym c.tag.ensures ∙ same)) (rw c.value.ensures at (sym c.check_octets.ensures ∙ c.if-not-check_octets.false)) (rw c.value-2.ensures at c.copied.ensures.ok) (rw c.value-2.ensures at c.copied.ensures.err)
