-- AttributeTypeAndValue: oid: OBJECT IDENTIFIER, value: ANY (RFC 5280 4.1.2.4)
use Rattle.std.specs.Prelude.{◌≡◌, ℕ, Bool, List, refl}
use Rattle.std.specs.Bool.{Decides}
use Rattle.std.specs.Cmp.{IsEquivalence, IsTotalOrder}
use Rattle.std.specs.Ordering.{eq_by_cmp}
use Rattle.x509_der.specs.declared.error.ErrorKind.{ErrorKind}
use Rattle.x509_der.specs.declared.tag.Tag.TheVariants.{Sequence}
use Rattle.x509_der.specs.Form.{Form, Contents, IsContents, universal, spelling}
use Rattle.x509_der.specs.Writing.{plain, writes}
use Rattle.x509_der.specs.Order.{HasEncoding, Order, IsOrder, IsDerOrder, der_order}
use Rattle.x509_der.specs.Ordered.{by_bytes, der_lawful}
use Rattle.x509_der.specs.ObjectIdentifierForm.{object_identifier, object_identifier_lawful, object_identifier_ordered}
use Rattle.x509_der.specs.Any.{any, any_lawful, any_ordered}
use Rattle.x509_der.specs.Frames.{Part, required, ◌⊗◌, fields}
use Rattle.x509_der.specs.PartRules.{part_rules}
use Rattle.x509_der.specs.FieldsOrder.{by_two, two_ordered}
use Rattle.x509_der.specs.declared.any.Any.{Any}
use Rattle.x509_der.specs.OrderEquality.{order_equivalence, order_decides}
use Rattle.x509_name.specs.declared.attr.type_and_value.AttributeTypeAndValue.{AttributeTypeAndValue}

unfoldable pub type_and_value_fields : Part (List ℕ × Any)
type_and_value_fields = required object_identifier ⊗ required any

abbrev pub type_and_value_contents : Contents AttributeTypeAndValue
type_and_value_contents = fields (λ a. (a.oid, a.value)) (λ (oid, value). record { oid = oid; value = value }) type_and_value_fields

abbrev pub attribute_type_and_value : Form AttributeTypeAndValue
attribute_type_and_value = universal Sequence type_and_value_contents

pub type_and_value_contents_lawful : {R : ErrorKind → Type 0} → IsContents R type_and_value_contents
unfolding type_and_value_fields
type_and_value_contents_lawful = search (part_rules, object_identifier_lawful, any_lawful) depth 20

-- ---- the byte order

-- by the type, then by the value
abbrev pub type_and_value_order : Order AttributeTypeAndValue
type_and_value_order = by_two (λ a. (a.oid, a.value)) object_identifier (by_bytes object_identifier) any (by_bytes any)

pub type_and_value_ordered : IsOrder attribute_type_and_value (writes plain) type_and_value_order
unfolding type_and_value_fields
type_and_value_ordered = two_ordered (λ a. (a.oid, a.value)) (λ (oid, value). record { oid = oid; value = value }) object_identifier (by_bytes object_identifier) any (by_bytes any) (λ a. refl) (object_identifier_ordered (writes plain)) (any_ordered (writes plain))

-- ---- equality

pub types_and_values_lawful : IsDerOrder (HasEncoding attribute_type_and_value (writes plain)) (spelling attribute_type_and_value) (der_order attribute_type_and_value (writes plain) type_and_value_order)
types_and_values_lawful = der_lawful attribute_type_and_value (writes plain) type_and_value_order type_and_value_ordered

-- the order of the encodings
abbrev pub type_and_value_cmp : Order AttributeTypeAndValue
type_and_value_cmp = der_order attribute_type_and_value (writes plain) type_and_value_order

pub type_and_value_total : IsTotalOrder type_and_value_cmp
type_and_value_total = types_and_values_lawful.total

-- whether the order finds two equal
abbrev pub type_and_value_eq : AttributeTypeAndValue → AttributeTypeAndValue → Bool
type_and_value_eq = eq_by_cmp type_and_value_cmp

pub type_and_value_equivalence : IsEquivalence type_and_value_eq
type_and_value_equivalence = order_equivalence types_and_values_lawful

-- it finds a value equal to itself alone
pub type_and_value_decides : (x y : AttributeTypeAndValue) → Decides (type_and_value_eq x y) (x ≡ y)
type_and_value_decides = order_decides types_and_values_lawful
