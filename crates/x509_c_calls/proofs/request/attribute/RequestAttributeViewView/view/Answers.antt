use Rattle.std.proofs.Common.{◌++◌, ◌∙◌, refl, append_assoc}
use Rattle.x509_c_calls.proofs.Octets.{is_oid, is_sequence}
use Rattle.x509_c_calls.proofs.RequestFields.{is_set}
use Rattle.x509_c_calls.proofs.request.attribute.RequestAttributeViewView.view.Goals as goal
use Rattle.x509_der.specs.ObjectIdentifierForm.{object_identifier}
use Rattle.x509_der.specs.Frames.{fields_octets}
use Rattle.x509_der.specs.Form.{spelling}
use Rattle.x509_name.specs.Attribute.{attribute, attribute_fields, value_set}

pub returns : goal.returns
unfolding fields_octets attribute_fields
returns c = λ behind e.
    let it = c.args._value.now in
    let values_text = spelling value_set it.values in
    let inside = c.enter.ensures.stands 48 (attribute.content it) behind is_sequence e in
    let oid = c.step_content-oid.ensures.stands 6 it.oid (values_text ++ behind) is_oid (inside.1 ∙ append_assoc (spelling object_identifier it.oid) values_text behind) in
    let values = c.step.ensures.stands values_text behind (49, value_set.content it.values, is_set, refl) oid.1 in
    record { oid = oid.0; values = values.0 }
