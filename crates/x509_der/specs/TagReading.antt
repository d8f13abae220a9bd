-- The tag with an identifier octet. A tool of the proofs: tags and identifier octets are one to one.
use Rattle.std.proofs.Common.{◌≡◌, ℕ, ◌+◌, ◌%◌, ◌<◌, ◌≤◌, min, Bool, true, false, ◌&&◌, cond, ltb, leb, eqb, List, [], ◌∷◌, refl, sym, ap, subst, ◌∙◌, arith}
use Rattle.std.proofs.lemmas.Bool.{and_parts, ltb-true, ne_eqb, eqb-true, agree_below_at}
use Rattle.std.proofs.lemmas.Bool.Decides.{nat_tests}
use Rattle.std.specs.Coded.{le_prop}
use Rattle.std.specs.Prelude.{nat_eq}
use Rattle.x509_der.specs.Element.{is_identifier, is_universal}
use Rattle.x509_der.specs.TagLaws.{is_identifier-octet}
use Rattle.x509_der.specs.Tag.{octet_of, constructed_bit}
use Rattle.x509_der.specs.declared.tag.Tag.{Tag}
use Rattle.x509_der.specs.declared.tag.Tag.TheVariants.{Boolean, Integer, BitString, OctetString, Null, ObjectIdentifier, Real, Enumerated, Utf8String, RelativeOid, NumericString, PrintableString, TeletexString, VideotexString, Ia5String, UtcTime, GeneralizedTime, GraphicString, VisibleString, GeneralString, UniversalString, BmpString, Sequence, Set, Application, ContextSpecific, Private}
use Rattle.x509_der.specs.declared.tag.number.TagNumber.{TagNumber}

pub number_is : (a b : TagNumber) → a.number ≡ b.number → a ≡ b
number_is a b e =
    subst (λ (m : ℕ). (k : m ≤ 30) → a ≡ record { number = m; low = k }) e
    (λ k. ap (λ (low : a.number ≤ 30). record { number = a.number; low = low }) (le_prop a.low k)) b.low

pub at_most_30 : (n : ℕ) → min n 30 ≤ 30
at_most_30 n = omega arith

-- the number in the low five bits
abbrev pub low_number : ℕ → TagNumber
low_number octet = record { number = min (octet % 32) 30; low = at_most_30 (octet % 32) }

-- ---- the classes with a number

abbrev pub class_tag : ℕ → Tag
class_tag octet =
    cond (ltb octet 128) (Application (leb 32 (octet % 64)) (low_number octet))
    (cond (ltb octet 192) (ContextSpecific (leb 32 (octet % 64)) (low_number octet))
    (Private (leb 32 (octet % 64)) (low_number octet)))

low_number-is : (class : ℕ) (c : Bool) (n : TagNumber) → class % 64 ≡ 0 → low_number (class + constructed_bit c + n.number) ≡ n
low_number-is class true n even = let low : n.number ≤ 30 = n.low in number_is _ n (omega (arith, even, low))
low_number-is class false n even = let low : n.number ≤ 30 = n.low in number_is _ n (omega (arith, even, low))

constructed-is : (class : ℕ) (c : Bool) (n : TagNumber) → class % 64 ≡ 0 → leb 32 ((class + constructed_bit c + n.number) % 64) ≡ c
constructed-is class true n even = let low : n.number ≤ 30 = n.low in grind (arith, nat_tests)
constructed-is class false n even = let low : n.number ≤ 30 = n.low in grind (arith, nat_tests)

below : (class : ℕ) (c : Bool) (n : TagNumber) (bound : ℕ) → class + 64 ≤ bound → ltb (class + constructed_bit c + n.number) bound ≡ true
below class true n bound le = let low : n.number ≤ 30 = n.low in grind (arith, nat_tests)
below class false n bound le = let low : n.number ≤ 30 = n.low in grind (arith, nat_tests)

not_below : (class : ℕ) (c : Bool) (n : TagNumber) (bound : ℕ) → bound ≤ class → ltb (class + constructed_bit c + n.number) bound ≡ false
not_below class c n bound le = grind (arith, nat_tests)

-- ---- the universal class

abbrev pub universal_tags : List Tag
universal_tags = Boolean ∷ Integer ∷ BitString ∷ OctetString ∷ Null ∷ ObjectIdentifier ∷ Real ∷ Enumerated ∷ Utf8String ∷ RelativeOid ∷ NumericString ∷ PrintableString ∷ TeletexString ∷ VideotexString ∷ Ia5String ∷ UtcTime ∷ GeneralizedTime ∷ GraphicString ∷ VisibleString ∷ GeneralString ∷ UniversalString ∷ BmpString ∷ Sequence ∷ Set ∷ []

-- the first of the tags with the octet
abbrev pub find_tag : ℕ → List Tag → Tag → Tag
find_tag octet [] other = other
find_tag octet (tag ∷ tags) other = cond (eqb (octet_of tag) octet) tag (find_tag octet tags other)

abbrev are_universal : List Tag → Bool
are_universal [] = true
are_universal (tag ∷ tags) = ltb (octet_of tag) 64 && are_universal tags

find_past : (octet : ℕ) (tags : List Tag) (other : Tag) → are_universal tags ≡ true → 64 ≤ octet → find_tag octet tags other ≡ other
find_past octet [] other all le = refl
find_past octet (tag ∷ tags) other all le =
    let parts = and_parts (ltb (octet_of tag) 64) (are_universal tags) all in
    let low : octet_of tag < 64 = ltb-true _ _ parts.0 in
    rw (ne_eqb (octet_of tag) octet (λ e. absurd (omega (arith, low, le, e)))) (find_past octet tags other parts.1 le)

-- the tag with an identifier octet
unfoldable pub tag_at : ℕ → Tag
tag_at octet = find_tag octet universal_tags (class_tag octet)

of_class : (octet : ℕ) (tag : Tag) → 64 ≤ octet → class_tag octet ≡ tag → tag_at octet ≡ tag
unfolding tag_at
of_class octet tag le is = find_past octet universal_tags (class_tag octet) refl le ∙ is

pub tag_at-octet_of : (tag : Tag) → tag_at (octet_of tag) ≡ tag
unfolding tag_at
tag_at-octet_of Boolean = refl
tag_at-octet_of Integer = refl
tag_at-octet_of BitString = refl
tag_at-octet_of OctetString = refl
tag_at-octet_of Null = refl
tag_at-octet_of ObjectIdentifier = refl
tag_at-octet_of Real = refl
tag_at-octet_of Enumerated = refl
tag_at-octet_of Utf8String = refl
tag_at-octet_of RelativeOid = refl
tag_at-octet_of NumericString = refl
tag_at-octet_of PrintableString = refl
tag_at-octet_of TeletexString = refl
tag_at-octet_of VideotexString = refl
tag_at-octet_of Ia5String = refl
tag_at-octet_of UtcTime = refl
tag_at-octet_of GeneralizedTime = refl
tag_at-octet_of GraphicString = refl
tag_at-octet_of VisibleString = refl
tag_at-octet_of GeneralString = refl
tag_at-octet_of UniversalString = refl
tag_at-octet_of BmpString = refl
tag_at-octet_of Sequence = refl
tag_at-octet_of Set = refl
tag_at-octet_of (Application c n) = of_class (64 + constructed_bit c + n.number) (Application c n) (omega arith) (rw (below 64 c n 128 (omega arith), constructed-is 64 c n refl, low_number-is 64 c n refl) refl)
tag_at-octet_of (ContextSpecific c n) = of_class (128 + constructed_bit c + n.number) (ContextSpecific c n) (omega arith) (rw (not_below 128 c n 128 (omega arith), below 128 c n 192 (omega arith), constructed-is 128 c n refl, low_number-is 128 c n refl) refl)
tag_at-octet_of (Private c n) = of_class (192 + constructed_bit c + n.number) (Private c n) (omega arith) (rw (not_below 192 c n 128 (omega arith), not_below 192 c n 192 (omega arith), constructed-is 192 c n refl, low_number-is 192 c n refl) refl)

-- tags with one identifier octet are one
pub same_tag : (s t : Tag) → octet_of s ≡ octet_of t → s ≡ t
same_tag s t e = sym (tag_at-octet_of s) ∙ ap tag_at e ∙ tag_at-octet_of t

-- an identifier octet is that of its tag
found_again : (octet : ℕ) → octet < 256 → nat_eq (octet_of (tag_at octet)) octet ≡ is_identifier octet
unfolding tag_at is_identifier is_universal
found_again octet lt = agree_below_at (λ b. nat_eq (octet_of (tag_at b)) b) is_identifier 256 octet refl lt

pub octet_of-tag_at : (octet : ℕ) → is_identifier octet ≡ true → octet_of (tag_at octet) ≡ octet
octet_of-tag_at octet h = eqb-true _ _ (found_again octet (is_identifier-octet octet h) ∙ h)
