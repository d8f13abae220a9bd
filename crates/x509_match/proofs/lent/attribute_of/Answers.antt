use Rattle.std.proofs.Common.{sym}
use Rattle.x509_der.specs.Any.{any}
use Rattle.x509_der.specs.Form.{spelling}
use Rattle.x509_der.specs.TagLaws.{tag_is_identifier}
use Rattle.x509_der.specs.declared.tag.Tag.TheVariants.{ObjectIdentifier}
use Rattle.x509_match.proofs.Fronts.{whole_is, no_whole}
use Rattle.x509_match.proofs.lent.attribute_of.Goals as goal

pub returns-in-Ok-from_octet : goal.returns-in-Ok-from_octet
returns-in-Ok-from_octet c = λ a h.
    let fields = c.front_content.ensures.front 6 a.oid (spelling any a.value) (tag_is_identifier ObjectIdentifier) h.2 in
    let value = whole_is _ _ _ _ c.in-Ok.ensures.exact (tag_is_identifier a.value.tag) fields.1 in
    (h.0, fields.0, c.in-Ok-from_octet.ensures.value a.value.tag (sym value.0), value.1)

pub returns-in-Err-from_octet : goal.returns-in-Err-from_octet
returns-in-Err-from_octet c = λ a h.
    let fields = c.front_content.ensures.front 6 a.oid (spelling any a.value) (tag_is_identifier ObjectIdentifier) h.2 in
    let value = whole_is _ _ _ _ c.in-Ok.ensures.exact (tag_is_identifier a.value.tag) fields.1 in
    c.in-Err-from_octet.ensures.err.1 a.value.tag (sym value.0)

pub returns-in-Err : goal.returns-in-Err
returns-in-Err c = λ a h.
    let fields = c.front_content.ensures.front 6 a.oid (spelling any a.value) (tag_is_identifier ObjectIdentifier) h.2 in
    no_whole _ _ _ _ c.in-Err.ensures.exact c.in-Err.ensures.err (tag_is_identifier a.value.tag) fields.1
