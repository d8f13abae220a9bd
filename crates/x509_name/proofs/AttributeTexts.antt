-- The text of an attribute, case by case.
use Rattle.std.proofs.Common.{◌≡◌, ◌++◌, ◌∷◌, ℕ, Bool, true, false, List, Some, None, refl}
use Rattle.hex.specs.Hex.{encode_lower}
use Rattle.x509_der.specs.Arcs.{dotted}
use Rattle.x509_der.specs.ObjectIdentifier.{arcs_of}
use Rattle.x509_der.specs.declared.any.Any.{Any}
use Rattle.x509_name.specs.Escapes.{escaped}
use Rattle.x509_name.specs.AttributeNames.{Key}
use Rattle.x509_name.specs.Keys.{key_of}
use Rattle.x509_name.specs.Attributes.{attribute_text, is_text, value_octets}

module _ (octets : List ℕ) (value : Any) where
  pub named_text : (key : Key) → is_text value.tag value.value ≡ true → key_of octets ≡ Some key → key.name ++ 61 ∷ escaped value.value ≡ attribute_text octets value
  unfolding attribute_text
  named_text key is found = rw (is, found) refl

  pub unnamed_text : key_of octets ≡ None → dotted (arcs_of octets) ++ 61 ∷ 35 ∷ encode_lower (value_octets value) ≡ attribute_text octets value
  unfolding attribute_text
  unnamed_text none = by_text (is_text value.tag value.value) refl
    where
      by_text : (is : Bool) → is_text value.tag value.value ≡ is → dotted (arcs_of octets) ++ 61 ∷ 35 ∷ encode_lower (value_octets value) ≡ attribute_text octets value
      by_text true is = rw (is, none) refl
      by_text false is = rw is refl

  pub other_text : is_text value.tag value.value ≡ false → dotted (arcs_of octets) ++ 61 ∷ 35 ∷ encode_lower (value_octets value) ≡ attribute_text octets value
  unfolding attribute_text
  other_text not = rw not refl
