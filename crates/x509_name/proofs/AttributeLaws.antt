-- Texts of attributes: what is read is one, and what is printed reads back.
use Rattle.std.proofs.Common.{◌≡◌, ◌≢◌, ◌<◌, ◌≤◌, ℕ, zero, suc, true, false, List, [], ◌∷◌, ◌++◌, length, Option, Some, None, Result, Ok, refl, sym, ap, ◌∙◌, arith, inl, inr, subst}
use Rattle.std.specs.Prelude.{Contains}
use Rattle.std.specs.Char.{is_ascii_uppercase}
use Rattle.std.specs.List.{AllByRecursion, list_all}
use Rattle.std.proofs.lemmas.Bool.{and_parts, cases_Bool, cases_lt}
use Rattle.std.proofs.lemmas.Bool.Decides.{nat_tests, eqb_tells}
use Rattle.std.proofs.lemmas.List.{length-append}
use Rattle.hex.specs.Hex.{IsBytes, decode_of, encode_lower}
use Rattle.hex.specs.declared.error.FromHexError.{FromHexError}
use Rattle.hex.proofs.HexLemmas.{decode_of-encode_lower}
use Rattle.x509_der.specs.Element.{element, length_octets, limit}
use Rattle.x509_der.specs.FrontLaws.{element_is}
use Rattle.x509_der.specs.Tag.{octet_of}
use Rattle.x509_der.specs.TagLaws.{tag_is_identifier, is_identifier-octet}
use Rattle.x509_der.specs.TagReading.{same_tag}
use Rattle.x509_der.specs.declared.error.ErrorKind.{ErrorKind}
use Rattle.x509_der.specs.declared.tag.Tag.{Tag}
use Rattle.x509_der.specs.Arcs.{AreArcs, dotted}
use Rattle.x509_der.specs.ArcLaws.{content_of-arcs_of, small_arcs}
use Rattle.x509_der.specs.ObjectIdentifier.{arcs_of}
use Rattle.x509_der.specs.declared.any.Any.{Any}
use Rattle.x509_name.specs.Escapes.{escaped}
use Rattle.x509_name.specs.AttributeNames.{Key}
use Rattle.x509_name.specs.Keys.{key_of, tag_for}
use Rattle.x509_name.specs.Attributes.{AttributeSays, AttributeReads, AttributeRefused, ReadsBack, ValueSays, attribute_text, begins_with_hash, is_text, printed_key, value_octets}
use Rattle.x509_name.proofs.AttributeReading.{no_hash, one_type, said_parts}
use Rattle.x509_name.proofs.AttributeTexts.{named_text, unnamed_text, other_text}
use Rattle.x509_name.proofs.DottedTexts.{IsDottedOctet, contains_none, dotted_octets}
use Rattle.x509_name.proofs.Printed.{escaped_again, escaped_front}
use Rattle.x509_name.proofs.TableFacts.{name_is_capitals, named_again, octets_of_key}
use Rattle.x509_name.proofs.Unescaping.{one_reading}

-- ---- one attribute

ok_is : (read : Result (List ℕ) FromHexError) (x y : List ℕ) → read ≡ Ok x → read ≡ Ok y → x ≡ y
ok_is read x y p q = cc

tails : (x y : List ℕ) → 35 ∷ x ≡ 35 ∷ y → x ≡ y
tails x y e = cc

one_value_says : (octets text bytes others : List ℕ) → ValueSays octets text bytes → ValueSays octets text others → bytes ≡ others
one_value_says octets text bytes others (inl one) (inl other) =
    let digits = tails one.0 other.0 (sym one.1 ∙ other.1) in
    ok_is (decode_of one.0) bytes others one.2 (ap decode_of digits ∙ other.2)
one_value_says octets text bytes others (inl one) (inr other) = absurd (no_hash text one.0 other.1 one.1)
one_value_says octets text bytes others (inr one) (inl other) = absurd (no_hash text other.0 one.1 other.1)
one_value_says octets text bytes others (inr one) (inr other) =
    one.3 ∙ ap (element (octet_of (tag_for octets))) (one_reading text one.0 other.0 one.2 other.2) ∙ sym other.3

pub one_says : (text octets others bytes more : List ℕ) → AttributeSays text octets bytes → AttributeSays text others more → (octets ≡ others) × (bytes ≡ more)
one_says text octets others bytes more says again =
    let parts = said_parts text says.key says.rest others more says.cut again in
    let type = one_type says.key octets others says.names parts.0 in
    (type, one_value_says others says.rest bytes more (subst (λ (o : List ℕ). ValueSays o says.rest bytes) type says.says) parts.1)

one_value : (value other : Any) → value_octets value ≡ value_octets other → value ≡ other
one_value value other e =
    let same = element_is (octet_of value.tag) (octet_of other.tag) value.value other.value e in
    let tag = same_tag value.tag other.tag same.0 in
    λ i. record { tag = tag i; value = same.1 i }

pub one_attribute : (text octets others : List ℕ) (value other : Any) → AttributeReads text octets value → AttributeReads text others other → (octets ≡ others) × (value ≡ other)
one_attribute text octets others value other reads again =
    let same = one_says text octets others (value_octets value) (value_octets other) reads.0 again.0 in
    (same.0, one_value value other same.1)

-- ---- one refusal

pub reads_apart : (text octets : List ℕ) (value : Any) (kind : ErrorKind) → AttributeReads text octets value → AttributeRefused text kind → ⊥
reads_apart text octets value kind reads (inl long) =
    let same = (one_says text octets long.1.0 (value_octets value) long.1.1 reads.0 long.1.2).1 in
    let within = reads.1 in
    let more = long.1.3 in
    absurd (omega (arith, ap length same))
reads_apart text octets value kind reads (inr none) = none.2 octets value reads

pub one_refusal : (text : List ℕ) (kind other : ErrorKind) → AttributeRefused text kind → AttributeRefused text other → kind ≡ other
one_refusal text kind other (inl long) (inl again) = long.0 ∙ sym again.0
one_refusal text kind other (inl long) (inr none) = absurd (none.1 long.1)
one_refusal text kind other (inr none) (inl long) = absurd (none.1 long.1)
one_refusal text kind other (inr none) (inr again) = none.0 ∙ sym again.0

-- ---- octets

IsBytes-cons : (byte : ℕ) (bytes : List ℕ) → byte < 256 → IsBytes bytes → IsBytes (byte ∷ bytes)
IsBytes-cons byte bytes small all zero = small
IsBytes-cons byte bytes small all (suc i) = all i

IsBytes-append : (front back : List ℕ) → IsBytes front → IsBytes back → IsBytes (front ++ back)
IsBytes-append [] back p q = q
IsBytes-append (byte ∷ bytes) back p q = IsBytes-cons byte (bytes ++ back) (p 0) (IsBytes-append bytes back (λ i. p (suc i)) q)

from_all : (bytes : List ℕ) → AllByRecursion (λ byte. byte < 256) bytes → IsBytes bytes
from_all [] all i = omega arith
from_all (byte ∷ bytes) all zero = all.0
from_all (byte ∷ bytes) all (suc i) = from_all bytes all.1 i

length_bytes : (n : ℕ) → n ≤ limit → AllByRecursion (λ byte. byte < 256) (length_octets n)
unfolding length_octets
length_bytes n small =
    elim (cases_lt n 128) [
      | inl lt ↦ grind (arith, nat_tests)
      | inr a ↦ elim (cases_lt n 256) [
        | inl lt ↦ grind (arith, nat_tests)
        | inr b ↦ elim (cases_lt n 65536) [
          | inl lt ↦ grind (arith, nat_tests)
          | inr d ↦ elim (cases_lt n 16777216) [
            | inl lt ↦ grind (arith, nat_tests)
            | inr e ↦ grind (arith, nat_tests)
          ]
        ]
      ]
    ]

length_content : (tag : ℕ) (content : List ℕ) → length (element tag content) ≤ limit → length content ≤ limit
unfolding element
length_content tag content within = omega (arith, within, length-append (length_octets (length content)) content)

element_bytes : (tag : Tag) (content : List ℕ) → length (element (octet_of tag) content) ≤ limit → IsBytes content → IsBytes (element (octet_of tag) content)
unfolding element
element_bytes tag content within all =
    IsBytes-cons (octet_of tag) (length_octets (length content) ++ content) (is_identifier-octet (octet_of tag) (tag_is_identifier tag))
    (IsBytes-append (length_octets (length content)) content (from_all (length_octets (length content)) (length_bytes (length content) (length_content (octet_of tag) content within))) all)

-- ---- what is printed reads back

plain_front : (text : List ℕ) → ((rest : List ℕ) → text ≢ 35 ∷ rest) → begins_with_hash text ≡ false
plain_front [] none = refl
plain_front (byte ∷ rest) none = elim (eqb_tells byte 35) [
  | inl is ↦ absurd (none rest (ap (λ (b : ℕ). b ∷ rest) is.1))
  | inr not ↦ not.0
]

pub capitals : (name : List ℕ) → list_all is_ascii_uppercase name ≡ true → AllByRecursion (λ char. is_ascii_uppercase char ≡ true) name
capitals [] h = tt
capitals (char ∷ name) h = let parts = and_parts (is_ascii_uppercase char) (list_all is_ascii_uppercase name) h in (parts.0, capitals name parts.1)

name_lacks_sign : (name : List ℕ) → list_all is_ascii_uppercase name ≡ true → Contains name 61 → ⊥
name_lacks_sign name h = λ (found : Contains name 61). contains_none (λ char. is_ascii_uppercase char ≡ true) name 61 (capitals name h) (λ (is : is_ascii_uppercase 61 ≡ true). absurd cc) found

dotted_lacks_sign : (arcs : List ℕ) → AreArcs arcs → Contains (dotted arcs) 61 → ⊥
dotted_lacks_sign arcs are = λ (found : Contains (dotted arcs) 61). contains_none IsDottedOctet (dotted arcs) 61 (dotted_octets arcs (small_arcs arcs are)) (λ (is : IsDottedOctet 61). omega arith) found

module _ (octets : List ℕ) (value : Any) (back : ReadsBack octets value) where
  named_again_says : (key : Key) → is_text value.tag value.value ≡ true → key_of octets ≡ Some key → AttributeSays (attribute_text octets value) octets (value_octets value)
  named_again_says key is found =
      let tag : value.tag ≡ tag_for octets = back.tagged (λ (none : printed_key octets value ≡ None). absurd (let some : printed_key octets value ≡ Some key = rw (is, found) refl in cc)) in
      record {
        key = key.name;
        rest = escaped value.value;
        cut = record { joined = sym (named_text octets value key is found); first = name_lacks_sign key.name (name_is_capitals octets key found) };
        names = inl (key, named_again octets key found, sym (octets_of_key octets key found));
        says = inr (value.value, plain_front (escaped value.value) (escaped_front value.value), escaped_again value.value, ap (λ (t : Tag). element (octet_of t) value.value) tag);
      }

  dotted_again_says : dotted (arcs_of octets) ++ 61 ∷ 35 ∷ encode_lower (value_octets value) ≡ attribute_text octets value → AttributeSays (attribute_text octets value) octets (value_octets value)
  dotted_again_says text =
      let arcs = content_of-arcs_of octets back.type in
      record {
        key = dotted (arcs_of octets);
        rest = 35 ∷ encode_lower (value_octets value);
        cut = record { joined = sym text; first = dotted_lacks_sign (arcs_of octets) arcs.0 };
        names = inr (arcs_of octets, arcs.0, refl, sym arcs.1);
        says = inl (encode_lower (value_octets value), refl, decode_of-encode_lower (value_octets value) (element_bytes value.tag value.value back.within back.content));
      }

  by_key : (found : Option Key) → key_of octets ≡ found → is_text value.tag value.value ≡ true → AttributeSays (attribute_text octets value) octets (value_octets value)
  by_key (Some key) found is = named_again_says key is found
  by_key None found is = dotted_again_says (unnamed_text octets value found)

  pub attribute_again : AttributeReads (attribute_text octets value) octets value
  attribute_again = (
    elim (cases_Bool (is_text value.tag value.value)) [
      | inl is ↦ by_key (key_of octets) refl is
      | inr not ↦ dotted_again_says (other_text octets value not)
    ],
    back.within,
  )

pub one_attribute_text : (octets others : List ℕ) (value other : Any) → ReadsBack octets value → ReadsBack others other → attribute_text octets value ≡ attribute_text others other → (octets ≡ others) × (value ≡ other)
one_attribute_text octets others value other back again same =
    one_attribute (attribute_text others other) octets others value other
    (subst (λ (text : List ℕ). AttributeReads text octets value) same (attribute_again octets value back)) (attribute_again others other again)
