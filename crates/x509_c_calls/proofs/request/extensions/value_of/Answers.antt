use Rattle.std.proofs.Common.{◌≡◌, ◌∷◌, [], ◌++◌, refl, ◌∙◌, append_assoc}
use Rattle.x509_c_calls.proofs.AskedExtensions.{alone_stands, asks_at, asks_nothing, one_value, why_nothing}
use Rattle.x509_c_calls.proofs.Octets.{is_oid, is_sequence}
use Rattle.x509_c_calls.proofs.RequestFields.{is_set}
use Rattle.x509_c_calls.proofs.request.extensions.value_of.Goals as goal
use Rattle.x509_der.specs.Form.{spelling}
use Rattle.x509_der.specs.Frames.{fields_octets}
use Rattle.x509_der.specs.ObjectIdentifierForm.{object_identifier}
use Rattle.x509_ext.specs.Extension.{extensions}
use Rattle.x509_name.specs.Attribute.{attribute, attribute_fields, value_set}

pub returns-in-Err : goal.returns-in-Err
returns-in-Err c = λ behind e.
    let value = c.value-item.result in
    let alone : c.args.attribute.now.values ≡ value ∷ [] = rw c.as_slice.ensures.members at (one_value c.as_slice.result.now value value c.in-len1.len_at_least c.in-len1.len_below c.value-item.is) in
    asks_nothing c.args.attribute.now.values value c.kind.result alone
    (why_nothing value c.in-Err.e.kind c.kind.result c.kind.ensures c.in-Err.ensures.refused (λ asked is. c.in-Err.ensures.only (record { 0 = asked }) is.0 is.1))

pub returns-in-Ok : goal.returns-in-Ok
unfolding fields_octets attribute_fields
returns-in-Ok c = λ behind e.
    let it = c.args.attribute.now in
    let value = c.value-item.result in
    let asked = c.in-Ok._asked.0 in
    let is = c.in-Ok.ensures.found in
    let alone : it.values ≡ value ∷ [] = rw c.as_slice.ensures.members at (one_value c.as_slice.result.now value value c.in-len1.len_at_least c.in-len1.len_below c.value-item.is) in
    let values_text = spelling value_set it.values in
    let inside = c.enter.ensures.stands 48 (attribute.content it) behind is_sequence e in
    let oid = c.step.ensures.stands (spelling object_identifier it.oid) (values_text ++ behind) (6, it.oid, is_oid, refl) (inside.1 ∙ append_assoc (spelling object_identifier it.oid) values_text behind) in
    let values = c.enter-in-Ok.ensures.stands 49 (value_set.content it.values) behind is_set oid.1 in
    let last = c.step-in-Ok.ensures.stands (spelling extensions asked) behind (48, extensions.content asked, is_sequence, refl) (alone_stands it.values value (spelling extensions asked) _ behind alone is.1 values.1) in
    asks_at c.args.input.now it.values value asked behind c.step-in-Ok.result alone (is.0, is.1) last.0
