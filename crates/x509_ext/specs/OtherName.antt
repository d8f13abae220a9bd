-- OtherName: type_id: OBJECT IDENTIFIER, value: {0}Any (RFC 5280 4.2.1.6)
use Rattle.std.specs.Prelude.{ℕ, List, refl}
use Rattle.x509_der.specs.declared.error.ErrorKind.{ErrorKind}
use Rattle.x509_der.specs.declared.tag.Tag.TheVariants.{Sequence}
use Rattle.x509_der.specs.Form.{Form, IsForm, Contents, IsContents, universal}
use Rattle.x509_der.specs.FormLaws.{universal_lawful}
use Rattle.x509_der.specs.Any.{any, any_lawful}
use Rattle.x509_der.specs.Frames.{Part, required, explicit, ◌⊗◌, fields}
use Rattle.x509_der.specs.PartRules.{part_rules}
use Rattle.x509_der.specs.declared.any.Any.{Any}
use Rattle.x509_der.specs.ObjectIdentifierForm.{object_identifier, object_identifier_lawful}
use Rattle.x509_ext.specs.declared.pkix.name.other_name.OtherName.{OtherName}
use Rattle.x509_der.specs.Writing.{plain, writes}
use Rattle.x509_der.specs.Order.{Order, IsOrder, der_order}
use Rattle.x509_der.specs.Ordered.{by_bytes}
use Rattle.x509_der.specs.PartOrder.{PartOrder, by_parts, by_required, ◌⊕◌, plain_parts_ordered}
use Rattle.x509_der.specs.OrderRules.{order_rules}

unfoldable pub other_name_fields : Part (List ℕ × Any)
other_name_fields = required object_identifier ⊗ required (explicit 0 any)

abbrev pub other_name_contents : Contents OtherName
other_name_contents = fields (λ o. (o.type_id, o.value)) (λ (type_id, value). record { type_id = type_id; value = value }) other_name_fields

abbrev pub other_name : Form OtherName
other_name = universal Sequence other_name_contents

pub other_name_contents_lawful : {R : ErrorKind → Type 0} → IsContents R other_name_contents
unfolding other_name_fields
other_name_contents_lawful = search (part_rules, object_identifier_lawful, any_lawful) depth 20

pub other_name_lawful : {R : ErrorKind → Type 0} → IsForm R other_name
other_name_lawful = universal_lawful Sequence other_name_contents other_name_contents_lawful

-- ---- the byte order

abbrev pub other_name_cmp : PartOrder (List ℕ × Any)
other_name_cmp = by_required object_identifier plain (by_bytes object_identifier) ⊕ by_required (explicit 0 any) plain (der_order any (writes plain) (by_bytes any))

abbrev pub other_name_order : Order OtherName
other_name_order = by_parts (λ o. (o.type_id, o.value)) other_name_cmp

pub other_name_ordered : IsOrder other_name (writes plain) other_name_order
unfolding other_name_fields
other_name_ordered = plain_parts_ordered Sequence _ _ other_name_cmp (λ v. refl) refl (search (order_rules) depth 20)
