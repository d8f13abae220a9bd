use Rattle.std.proofs.Common.{◌∙◌, ◌++◌, length, refl, ap}
use Rattle.std.proofs.Output.{has_written_append, has_written_of_eq}
use Rattle.hex.specs.Hex.{encode_lower}
use Rattle.x509_der.specs.Element.{header}
use Rattle.x509_der.specs.Tag.{octet_of}
use Rattle.x509_name.proofs.HexTexts.{encode_element}
use Rattle.x509_name.proofs.text.hex_text.write_element.Goals as goal

pub returns : goal.returns
returns g c = λ plain ok.
    let value = c.value-content.ensures in
    let tag = c.octet.ensures.octet ∙ ap octet_of c.tag.ensures in
    let header_written = c.in_ok-write_header.ensures plain refl in
    has_written_of_eq _ _ _ _ _
    ((λ i. encode_lower (header (tag i) (length (value i))) ++ encode_lower (value i)) ∙ encode_element (octet_of c.args.value.now.tag) c.args.value.now.value)
    (has_written_append _ _ _ _ _ _ header_written (c.write_octets.ensures header_written.plain ok))
