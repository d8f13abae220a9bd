-- Attribute: oid: OBJECT IDENTIFIER, values: SET OF ANY (RFC 2986 4.1)
use Rattle.std.specs.Prelude.{◌≡◌, ℕ, Bool, List, refl}
use Rattle.std.specs.Bool.{Decides}
use Rattle.std.specs.Cmp.{IsEquivalence}
use Rattle.std.specs.Ordering.{eq_by_cmp}
use Rattle.x509_der.specs.declared.error.ErrorKind.{ErrorKind}
use Rattle.x509_der.specs.declared.tag.Tag.TheVariants.{Sequence, Set}
use Rattle.x509_der.specs.Form.{Form, IsForm, Contents, IsContents, universal, spelling}
use Rattle.x509_der.specs.FormLaws.{universal_lawful}
use Rattle.x509_der.specs.Writing.{plain, writes}
use Rattle.x509_der.specs.Order.{HasEncoding, Order, IsOrder, IsDerOrder, der_order}
use Rattle.x509_der.specs.Ordered.{by_bytes, by_members, der_lawful}
use Rattle.x509_der.specs.ObjectIdentifierForm.{object_identifier, object_identifier_lawful, object_identifier_ordered}
use Rattle.x509_der.specs.Any.{any, any_lawful, any_ordered}
use Rattle.x509_der.specs.Frames.{Part, required, ◌⊗◌, fields}
use Rattle.x509_der.specs.PartRules.{part_rules}
use Rattle.x509_der.specs.FieldsOrder.{by_two, two_ordered}
use Rattle.x509_der.specs.declared.any.Any.{Any}
use Rattle.x509_der.specs.Set.{set_of}
use Rattle.x509_der.specs.SetLaws.{set_lawful, set_ordered}
use Rattle.x509_der.specs.OrderEquality.{order_equivalence, order_decides}
use Rattle.x509_name.specs.declared.attr.attribute.Attribute.{Attribute}

-- the order of the values by their octets
abbrev pub value_order : Order Any
value_order = der_order any (writes plain) (by_bytes any)

-- SET OF ANY, in that order
abbrev pub value_set : Form (List Any)
value_set = universal Set (set_of any value_order)

unfoldable pub attribute_fields : Part (List ℕ × List Any)
attribute_fields = required object_identifier ⊗ required value_set

abbrev pub attribute_contents : Contents Attribute
attribute_contents = fields (λ a. (a.oid, a.values)) (λ (oid, values). record { oid = oid; values = values }) attribute_fields

abbrev pub attribute : Form Attribute
attribute = universal Sequence attribute_contents

value_set_lawful : {R : ErrorKind → Type 0} → IsForm R value_set
value_set_lawful = universal_lawful Set _ (set_lawful any value_order any_lawful)

pub attribute_contents_lawful : {R : ErrorKind → Type 0} → IsContents R attribute_contents
unfolding attribute_fields
attribute_contents_lawful = search (part_rules, object_identifier_lawful, value_set_lawful) depth 20

-- ---- the byte order

-- by the type, then by the set of values
abbrev pub attribute_order : Order Attribute
attribute_order = by_two (λ a. (a.oid, a.values)) object_identifier (by_bytes object_identifier) value_set (by_members value_order)

pub attribute_ordered : IsOrder attribute (writes plain) attribute_order
unfolding attribute_fields
attribute_ordered = two_ordered (λ a. (a.oid, a.values)) (λ (oid, values). record { oid = oid; values = values }) object_identifier (by_bytes object_identifier) value_set (by_members value_order) (λ a. refl) (object_identifier_ordered (writes plain)) (set_ordered any plain (by_bytes any) (any_ordered (writes plain)))

-- ---- equality

attributes_lawful : IsDerOrder (HasEncoding attribute (writes plain)) (spelling attribute) (der_order attribute (writes plain) attribute_order)
attributes_lawful = der_lawful attribute (writes plain) attribute_order attribute_ordered

-- the order of the encodings
abbrev pub attribute_cmp : Order Attribute
attribute_cmp = der_order attribute (writes plain) attribute_order

-- whether the order finds two equal
abbrev pub attribute_eq : Attribute → Attribute → Bool
attribute_eq = eq_by_cmp attribute_cmp

pub attribute_equivalence : IsEquivalence attribute_eq
attribute_equivalence = order_equivalence attributes_lawful

-- it finds a value equal to itself alone
pub attribute_decides : (x y : Attribute) → Decides (attribute_eq x y) (x ≡ y)
attribute_decides = order_decides attributes_lawful
