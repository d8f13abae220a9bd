use Rattle.std.proofs.Common.{sym, subst}
use Rattle.x509_der.specs.TagLaws.{tag_is_identifier}
use Rattle.x509_der.specs.declared.tag.Tag.TheVariants.{Sequence}
use Rattle.x509_match.proofs.Fronts.{fields_of}
use Rattle.x509_match.specs.Encoded.{IsAttribute}
use Rattle.x509_name.specs.TypeAndValue.{attribute_type_and_value}
use Rattle.x509_match.proofs.lent.next_attribute.Goals as goal

pub returns-clause-front : goal.returns-clause-front
returns-clause-front c = λ a behind good is.
    let front = c.front_content.ensures.front 48 (attribute_type_and_value.content a) behind (tag_is_identifier Sequence) is in
    (c.attribute_of.ensures a (subst (λ z. IsAttribute z a) (sym front.0) (fields_of a good)), front.1)
