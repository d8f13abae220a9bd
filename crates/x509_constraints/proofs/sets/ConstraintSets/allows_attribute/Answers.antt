use Rattle.std.proofs.Common.{◌≡◌, ◌∙◌, ap, bytes_eq, sym, true}
use Rattle.std.proofs.lemmas.Result.{IfOk-weaker}
use Rattle.x509_name.specs.AttributeTypes as types
use Rattle.x509_constraints.specs.Constraints.{address_of}
use Rattle.x509_constraints.proofs.Asked.{attribute_answers}
use Rattle.x509_constraints.proofs.sets.ConstraintSets.allows_attribute.Goals as goal

pub returns : goal.returns
returns c sets applied =
    let is_email : bytes_eq c.args.attribute.now.oid types.email_address ≡ true =
    ap (λ o. bytes_eq o types.email_address) (sym c.as_bytes.ensures.octets) ∙ (sym c.is_email_address.ensures ∙ c.if-not-is_email_address.false) in
    let text = c.address_of.ensures ∙ (ap (λ t. address_of t c.value.result.now) c.tag.ensures ∙ ap (address_of c.args.attribute.now.value.tag) c.value.ensures) in
    IfOk-weaker _ _ _ (λ b answers. attribute_answers sets c.args.attribute.now c.address_of.result.now b is_email text answers) (c.allows_email.ensures sets applied)
