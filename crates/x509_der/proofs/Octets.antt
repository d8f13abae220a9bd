-- An octet that begins no element is that of no tag.
use Rattle.std.proofs.Common.{◌≡◌, ◌≢◌, ℕ, false, sym, ap, ◌∙◌}
use Rattle.std.proofs.lemmas.Bool.{true≢false}
use Rattle.x509_der.specs.Element.{is_identifier}
use Rattle.x509_der.specs.Tag.{octet_of}
use Rattle.x509_der.specs.TagLaws.{tag_is_identifier}
use Rattle.x509_der.specs.declared.tag.Tag.{Tag}

pub octet_refused : (octet : ℕ) → is_identifier octet ≡ false → (tag : Tag) → octet_of tag ≢ octet
octet_refused octet refused tag is = true≢false (sym (tag_is_identifier tag) ∙ ap is_identifier is ∙ refused)
