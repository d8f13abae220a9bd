-- Attributes are compared by the same octets exactly where they match.
use Rattle.std.proofs.Common.{◌≡◌, ◌↔◌, ◌⊎◌, ℕ, List, [], ◌∷◌, ◌++◌, length, encode_utf8_all, Option, Some, None, option_map, refl, sym, ap, ap₂, ◌∙◌, inl, inr}
use Rattle.std.proofs.lemmas.Str.{encodes_same}
use Rattle.x509_der.specs.Tag.{octet_of}
use Rattle.x509_der.specs.TagReading.{same_tag}
use Rattle.x509_der.specs.declared.any.Any.{Any}
use Rattle.x509_name.specs.declared.attr.type_and_value.AttributeTypeAndValue.{AttributeTypeAndValue}
use Rattle.x509_match.specs.Keys.{attribute_key, octets_key, value_key}
use Rattle.x509_match.specs.Matching.{AttributesMatch, compared_text}

-- lists that are as long and stand in front of others
fronts : {X : Type 0} (xs ys us vs : List X) → length xs ≡ length ys → xs ++ us ≡ ys ++ vs → (xs ≡ ys) × (us ≡ vs)
fronts [] [] us vs len e = (refl, e)
fronts [] (y ∷ ys) us vs len e = absurd cc
fronts (x ∷ xs) [] us vs len e = absurd cc
fronts (x ∷ xs) (y ∷ ys) us vs len e =
    let shorter : length xs ≡ length ys = cc in
    let behind : xs ++ us ≡ ys ++ vs = cc in
    let rest = fronts xs ys us vs shorter behind in
    let first : x ≡ y = cc in
    let all : x ∷ xs ≡ y ∷ ys = cc in
    (all, rest.1)

abbrev pub SameValue : Option (List ℕ) → Option (List ℕ) → Any → Any → Type 0
SameValue s t v w = (v ≡ w) ⊎ ((text : List ℕ) × (s ≡ Some text) × (t ≡ Some text))

same_value : (s t : Option (List ℕ)) (v w : Any) → value_key (option_map encode_utf8_all s) v.tag v.value ≡ value_key (option_map encode_utf8_all t) w.tag w.value → SameValue s t v w
same_value (Some s) (Some t) v w e =
    let octets : encode_utf8_all s ≡ encode_utf8_all t = cc in
    let text : s ≡ t = encodes_same s t octets in
    inr (t, ap Some text, refl)
same_value None None v w e =
    let tags : octet_of v.tag ≡ octet_of w.tag = cc in
    let tag = same_tag v.tag w.tag tags in
    let value : v.value ≡ w.value = cc in
    inl (λ i. record { tag = tag i; value = value i })
same_value (Some s) None v w e = absurd cc
same_value None (Some t) v w e = absurd cc

pub attributes_agree : (a b : AttributeTypeAndValue) → (attribute_key a ≡ attribute_key b) ↔ AttributesMatch a b
unfolding octets_key
attributes_agree a b = (
  λ e.
      let len : length a.oid ≡ length b.oid = cc in
      let behind : a.oid ++ value_key (option_map encode_utf8_all (compared_text a)) a.value.tag a.value.value ≡ b.oid ++ value_key (option_map encode_utf8_all (compared_text b)) b.value.tag b.value.value = cc in
      let parts = fronts a.oid b.oid _ _ len behind in
      (parts.0, same_value (compared_text a) (compared_text b) a.value b.value parts.1),
  λ m. elim m.1 [
    | inl same ↦ ap attribute_key (let p : a ≡ b = λ i. record { oid = m.0 i; value = same i } in p)
    | inr both ↦
        let left = ap (λ o. value_key (option_map encode_utf8_all o) a.value.tag a.value.value) both.1 in
        let right = ap (λ o. value_key (option_map encode_utf8_all o) b.value.tag b.value.value) both.2 in
        ap₂ (λ oid value. length oid ∷ oid ++ value) m.0 (left ∙ sym right)
  ],
)
