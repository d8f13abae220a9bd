-- Two attributes are equal exactly where their types and their values are.
use Rattle.std.proofs.Common.{◌≡◌, true, false, bytes_eq, refl}
use Rattle.std.specs.Prelude.{◌&&◌}
use Rattle.std.specs.Bool.{one_answer}
use Rattle.std.specs.Cmp.Lexicographic.{pointwise}
use Rattle.x509_der.specs.Equality.{exact_any}
use Rattle.x509_der.specs.Exact.{exact_octets, exact_list, exact_both, exact_by}
use Rattle.x509_der.specs.contracts.any.AnyPartialEq.TheImpl as any_eq
use Rattle.x509_name.specs.Attribute.{attribute_decides, attribute_eq}
use Rattle.x509_name.specs.TypeAndValue.{type_and_value_decides, type_and_value_eq}
use Rattle.x509_name.specs.declared.attr.attribute.Attribute.{Attribute}
use Rattle.x509_name.specs.declared.attr.type_and_value.AttributeTypeAndValue.{AttributeTypeAndValue}

-- ---- with one value

pairs : (x y : AttributeTypeAndValue) → (bytes_eq x.oid y.oid && any_eq.ghosts.eq x.value y.value) ≡ type_and_value_eq x y
pairs x y = one_answer _ _
    (exact_by (λ (a : AttributeTypeAndValue). (a.oid, a.value)) (λ (oid, value). record { oid = oid; value = value }) (λ a. refl) (exact_both exact_octets exact_any) x y)
    (type_and_value_decides x y)

pub pairs_of_a_type : (x y : AttributeTypeAndValue) → bytes_eq x.oid y.oid ≡ true → any_eq.ghosts.eq x.value y.value ≡ type_and_value_eq x y
pairs_of_a_type x y one = rw one at (pairs x y)

pub pairs_of_two_types : (x y : AttributeTypeAndValue) → bytes_eq x.oid y.oid ≡ false → false ≡ type_and_value_eq x y
pairs_of_two_types x y two = rw two at (pairs x y)

-- ---- with a set of values

sets : (x y : Attribute) → (bytes_eq x.oid y.oid && pointwise any_eq.ghosts.eq x.values y.values) ≡ attribute_eq x y
sets x y = one_answer _ _
    (exact_by (λ (a : Attribute). (a.oid, a.values)) (λ (oid, values). record { oid = oid; values = values }) (λ a. refl) (exact_both exact_octets (exact_list exact_any)) x y)
    (attribute_decides x y)

pub sets_of_a_type : (x y : Attribute) → bytes_eq x.oid y.oid ≡ true → pointwise any_eq.ghosts.eq x.values y.values ≡ attribute_eq x y
sets_of_a_type x y one = rw one at (sets x y)

pub sets_of_two_types : (x y : Attribute) → bytes_eq x.oid y.oid ≡ false → false ≡ attribute_eq x y
sets_of_two_types x y two = rw two at (sets x y)
