use Rattle.std.proofs.Common.{◌++◌, ◌∙◌, append_assoc, refl, ap}
use Rattle.x509_c_calls.proofs.Octets.{is_oid, is_sequence}
use Rattle.x509_c_calls.proofs.payloads.name.AttributeViewView.view.Goals as goal
use Rattle.x509_der.specs.ObjectIdentifierForm.{object_identifier}
use Rattle.x509_der.specs.Tag.{octet_of}
use Rattle.x509_der.specs.TagLaws.{tag_is_identifier}
use Rattle.x509_der.specs.Any.{any}
use Rattle.x509_der.specs.Frames.{fields_octets}
use Rattle.x509_der.specs.Form.{spelling}
use Rattle.x509_name.specs.TypeAndValue.{attribute_type_and_value, type_and_value_fields}

pub returns : goal.returns
unfolding fields_octets type_and_value_fields
returns c = λ behind e.
    let it = c.args.value.now in
    let tag = tag_is_identifier it.value.tag in
    let inside = c.enter.ensures.stands 48 (attribute_type_and_value.content it) behind is_sequence e in
    let oid = c.step_content-oid.ensures.stands 6 it.oid (spelling any it.value ++ behind) is_oid (inside.1 ∙ append_assoc (spelling object_identifier it.oid) (spelling any it.value) behind) in
    let content = c.content_at-content.ensures.stands (octet_of it.value.tag) it.value.value behind tag oid.1 in
    let element = c.step.ensures.stands (spelling any it.value) behind (octet_of it.value.tag, it.value.value, tag, refl) oid.1 in
    record { oid = oid.0; tag = c.from.ensures ∙ c.octet.ensures.octet ∙ ap octet_of c.tag.ensures; element = element.0; content = content }
