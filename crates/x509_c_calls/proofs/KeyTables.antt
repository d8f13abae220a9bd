-- The tables of the code are those of the standards.
use Rattle.std.proofs.Common.{◌≡◌, Bool, true, false, [], ◌∷◌, ◌++◌, List, ℕ, drop, Option, Some, None, is_some, map, bytes_eq, if◌then◌else◌, refl, sym, ◌∙◌, inl, inr}
use Rattle.std.proofs.lemmas.Bool.{cases_Bool, eqb-true}
use Rattle.std.specs.Prelude.{nat_eq}
use Rattle.x509_base.specs.KeyAlgorithms.{ec_public_key}
use Rattle.x509_base.specs.declared.algorithm_identifier.AlgorithmIdentifier.{AlgorithmIdentifier}
use Rattle.x509_c_calls.specs.Kinds.{key_algorithms, curves, curve_kind, curve_oid, key_kind, named_curve, named_in, signature_algorithms}
use Rattle.x509_c_calls.specs.Optional.{IsPerhapsAt}
use Rattle.x509_c_calls.specs.Place.{IsAt}
use Rattle.x509_c_calls.specs.declared.key.kinds.KeyKind.TheVariants as keys
use Rattle.x509_c_calls.specs.declared.key.kinds.TheConstants.{KEYS, CURVES, SIGNATURES}
use Rattle.x509_c_calls.specs.declared.place.span.Span.{Span}
use Rattle.x509_der.specs.Any.{any}
use Rattle.x509_der.specs.Arcs.{subidentifier}
use Rattle.x509_der.specs.Element.{element, is_identifier}
use Rattle.x509_der.specs.Form.{spelling}
use Rattle.x509_der.specs.Frames.{optional_octets}
use Rattle.x509_der.specs.Tag.{octet_of}
use Rattle.x509_der.specs.TagLaws.{tag_is_identifier}
use Rattle.x509_der.specs.declared.any.Any.{Any}

pub keys_are : map (λ r. (r.0.now, r.1)) KEYS ≡ key_algorithms
unfolding key_algorithms subidentifier
keys_are = refl

pub curves_are : map (λ r. (r.0.now, r.1)) CURVES ≡ curves
unfolding curves subidentifier
curves_are = refl

pub signatures_are : map (λ r. (r.0.now, r.1)) SIGNATURES ≡ signature_algorithms
unfolding signature_algorithms subidentifier
signatures_are = refl

pub elliptic_is : 0x2A ∷ 0x86 ∷ 0x48 ∷ 0xCE ∷ 0x3D ∷ 0x02 ∷ 0x01 ∷ [] ≡ ec_public_key
unfolding subidentifier
elliptic_is = refl

-- ---- the kind of a key

pub of_named : (p : Any) (octet : ℕ) → octet ≡ octet_of p.tag → octet ≡ 6 → named_in keys.EcOther curves p.value ≡ curve_kind (Some p)
unfolding curve_kind
of_named p octet is six = let e : octet_of p.tag ≡ 6 = sym is ∙ six in rw e refl

pub of_unnamed : (p : Any) (octet : ℕ) → octet ≡ octet_of p.tag → (octet ≡ 6 → ⊥) → keys.EcOther ≡ curve_kind (Some p)
unfolding curve_kind
of_unnamed p octet is other = elim (cases_Bool (nat_eq (octet_of p.tag) 6)) [
  | inl same ↦ absurd (other (is ∙ eqb-true (octet_of p.tag) 6 same))
  | inr differs ↦ rw differs refl
]

pub elliptic : (a : AlgorithmIdentifier) (octets ec : List ℕ) (b : Bool) → octets ≡ a.oid → ec ≡ ec_public_key → b ≡ bytes_eq octets ec → b ≡ true → curve_kind a.parameters ≡ key_kind a
unfolding key_kind
elliptic a octets ec b is e same so = let known : bytes_eq a.oid ec_public_key ≡ true = rw (is, e) at (sym same ∙ so) in rw known refl

pub other_key : (a : AlgorithmIdentifier) (octets ec : List ℕ) (b : Bool) → octets ≡ a.oid → ec ≡ ec_public_key → b ≡ bytes_eq octets ec → b ≡ false → named_in keys.Other key_algorithms a.oid ≡ key_kind a
unfolding key_kind
other_key a octets ec b is e same so = let known : bytes_eq a.oid ec_public_key ≡ false = rw (is, e) at (sym same ∙ so) in rw known refl

-- ---- the name of a curve

pub same_octets : (octets others a b : List ℕ) → octets ≡ a → others ≡ b → bytes_eq octets others ≡ bytes_eq a b
same_octets octets others a b is are = rw (is, are) refl

pub is_curve : (p : Any) (octet : ℕ) → octet ≡ octet_of p.tag → nat_eq octet 6 ≡ is_some (curve_oid (Some p))
is_curve p octet is = elim (cases_Bool (nat_eq (octet_of p.tag) 6)) [
  | inl same ↦ rw (is, same) refl
  | inr differs ↦ rw (is, differs) refl
]

-- where no curve is named it stands nowhere
none_at : (o : Option (List ℕ)) (behind bytes : List ℕ) → is_some o ≡ false → IsPerhapsAt (λ octets. octets) o behind bytes (record { place = 0; len = 0 })
none_at None behind bytes unset = refl
none_at (Some x) behind bytes unset = absurd (let k = unset in cc)

pub unnamed_at : (a : AlgorithmIdentifier) (behind bytes : List ℕ) (is_named : Bool) → is_named ≡ is_some (named_curve a) → is_named ≡ false → IsPerhapsAt (λ octets. octets) (named_curve a) behind bytes (record { place = 0; len = 0 })
unnamed_at a behind bytes is_named is unset = none_at (named_curve a) behind bytes (sym is ∙ unset)

-- where one is named it is what the parameters hold
module _ (behind bytes : List ℕ) (place : ℕ) (span : Span) (there : (t : ℕ) (content more : List ℕ) → is_identifier t ≡ true → drop place bytes ≡ element t content ++ more → IsAt content more bytes span) where
  held_at : (p : Any) → is_some (curve_oid (Some p)) ≡ true → drop place bytes ≡ spelling any p ++ behind → IsPerhapsAt (λ octets. octets) (curve_oid (Some p)) behind bytes span
  held_at p is e = elim (cases_Bool (nat_eq (octet_of p.tag) 6)) [
    | inl same ↦ rw same (there (octet_of p.tag) p.value behind (tag_is_identifier p.tag) e)
    | inr differs ↦ absurd (let k = rw differs at is in cc)
  ]

  at_if : (b : Bool) (o : Option Any) → is_some (if b then curve_oid o else None) ≡ true → drop place bytes ≡ optional_octets (spelling any) o ++ behind → IsPerhapsAt (λ octets. octets) (if b then curve_oid o else None) behind bytes span
  at_if false o is e = absurd (let k = is in cc)
  at_if true None is e = absurd (let k = is in cc)
  at_if true (Some p) is e = held_at p is e

  pub named_at : (a : AlgorithmIdentifier) (is_named : Bool) → is_named ≡ is_some (named_curve a) → is_named ≡ true → drop place bytes ≡ optional_octets (spelling any) a.parameters ++ behind → IsPerhapsAt (λ octets. octets) (named_curve a) behind bytes span
  unfolding named_curve
  named_at a is_named is set e = at_if (bytes_eq a.oid ec_public_key) a.parameters (sym is ∙ set) e
