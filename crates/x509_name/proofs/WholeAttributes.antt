-- The text of an attribute has no separator outside an escape, no open escape, and isn't empty.
use Rattle.std.proofs.Common.{◌≡◌, ◌≢◌, ◌<◌, ◌/◌, ◌%◌, ℕ, zero, suc, true, false, List, [], ◌∷◌, ◌++◌, length, Option, Some, None, refl, arith, inl, inr, subst}
use Rattle.std.specs.Prelude.{slice_index}
use Rattle.std.specs.Char.{is_ascii_uppercase}
use Rattle.std.specs.List.{AllByRecursion, list_all}
use Rattle.std.proofs.lemmas.Bool.{cases_Bool}
use Rattle.std.proofs.lemmas.Bool.Decides.{nat_tests}
use Rattle.std.proofs.lemmas.List.{length-append}
use Rattle.hex.specs.Hex.{encode_lower, encode_with, lower_digits}
use Rattle.x509_der.specs.Arcs.{dotted}
use Rattle.x509_der.specs.ArcLaws.{content_of-arcs_of, small_arcs}
use Rattle.x509_der.specs.ObjectIdentifier.{arcs_of, is_object_identifier}
use Rattle.x509_der.specs.declared.any.Any.{Any}
use Rattle.x509_name.specs.Escapes.{escaped, is_always_escaped}
use Rattle.x509_name.specs.AttributeNames.{Key}
use Rattle.x509_name.specs.Keys.{key_of}
use Rattle.x509_name.specs.Attributes.{ReadsBack, attribute_text, is_text, value_octets}
use Rattle.x509_name.proofs.AttributeLaws.{capitals}
use Rattle.x509_name.proofs.AttributeTexts.{named_text, unnamed_text, other_text}
use Rattle.x509_name.proofs.DottedTexts.{AllByRecursion-append, AllByRecursion-weaker, IsDottedOctet, dotted_octets}
use Rattle.x509_name.proofs.TableFacts.{name_is_capitals}
use Rattle.x509_name.proofs.WholeTexts.{IsSeparator, Whole, Whole-append, Whole-plain, whole_escaped, plus, comma}

-- ---- bytes that are escaped nowhere

abbrev IsPlain : ℕ → Type 0
IsPlain byte = is_always_escaped byte ≡ false

plain_capitals : (name : List ℕ) → list_all is_ascii_uppercase name ≡ true → AllByRecursion IsPlain name
plain_capitals name h = AllByRecursion-weaker (λ char. is_ascii_uppercase char ≡ true) IsPlain (λ (char : ℕ) (is : is_ascii_uppercase char ≡ true). plain_capital char is) name (capitals name h)
  where
    plain_capital : (char : ℕ) → is_ascii_uppercase char ≡ true → IsPlain char
    plain_capital char is = grind (arith, nat_tests)

plain_dotted_octet : (octet : ℕ) → IsDottedOctet octet → IsPlain octet
plain_dotted_octet octet is = grind (arith, nat_tests)

plain_digits : AllByRecursion IsPlain lower_digits
plain_digits = (refl, (refl, (refl, (refl, (refl, (refl, (refl, (refl, (refl, (refl, (refl, (refl, (refl, (refl, (refl, (refl, tt))))))))))))))))

plain_at : (bytes : List ℕ) (i : ℕ) → AllByRecursion IsPlain bytes → IsPlain (slice_index bytes i)
plain_at [] i all = refl
plain_at (byte ∷ bytes) zero all = all.0
plain_at (byte ∷ bytes) (suc i) all = plain_at bytes i all.1

plain_hex : (octets : List ℕ) → AllByRecursion IsPlain (encode_lower octets)
unfolding encode_with
plain_hex [] = tt
plain_hex (octet ∷ octets) = (plain_at lower_digits (octet / 16) plain_digits, (plain_at lower_digits (octet % 16) plain_digits, plain_hex octets))

plain_whole : (separator : ℕ) (text : List ℕ) → IsSeparator separator → AllByRecursion IsPlain text → Whole separator text
plain_whole separator text s all = Whole-plain separator text
    (AllByRecursion-weaker IsPlain (λ (byte : ℕ). (byte ≢ separator) × (byte ≢ 92))
    (λ (byte : ℕ) (plain : IsPlain byte). (apart byte separator plain s.always, apart byte 92 plain refl)) text all)
  where
    apart : (byte other : ℕ) → IsPlain byte → is_always_escaped other ≡ true → byte ≢ other
    apart byte other plain always e = absurd (let k = rw e at plain in cc)

-- ---- the text of an attribute

module _ (octets : List ℕ) (value : Any) (separator : ℕ) (s : IsSeparator separator) where
  whole_named : (key : Key) → key_of octets ≡ Some key → Whole separator (key.name ++ 61 ∷ escaped value.value)
  whole_named key found =
      Whole-append separator key.name (61 ∷ escaped value.value) (plain_whole separator key.name s (plain_capitals key.name (name_is_capitals octets key found)))
      (Whole-append separator (61 ∷ []) (escaped value.value) (plain_whole separator (61 ∷ []) s (refl, tt)) (whole_escaped separator value.value s))

  whole_dotted : is_object_identifier octets ≡ true → Whole separator (dotted (arcs_of octets) ++ 61 ∷ 35 ∷ encode_lower (value_octets value))
  whole_dotted is =
      plain_whole separator _ s
      (AllByRecursion-append IsPlain (dotted (arcs_of octets)) (61 ∷ 35 ∷ encode_lower (value_octets value))
      (AllByRecursion-weaker IsDottedOctet IsPlain plain_dotted_octet (dotted (arcs_of octets)) (dotted_octets (arcs_of octets) (small_arcs (arcs_of octets) (content_of-arcs_of octets is).0)))
      (refl, (refl, plain_hex (value_octets value))))

  by_key : (found : Option Key) → key_of octets ≡ found → is_object_identifier octets ≡ true → is_text value.tag value.value ≡ true → Whole separator (attribute_text octets value)
  by_key (Some key) found type is = subst (Whole separator) (named_text octets value key is found) (whole_named key found)
  by_key None found type is = subst (Whole separator) (unnamed_text octets value found) (whole_dotted type)

  pub whole_attribute : is_object_identifier octets ≡ true → Whole separator (attribute_text octets value)
  whole_attribute type = elim (cases_Bool (is_text value.tag value.value)) [
    | inl is ↦ by_key (key_of octets) refl type is
    | inr not ↦ subst (Whole separator) (other_text octets value not) (whole_dotted type)
  ]

pub whole_attribute_plus : (octets : List ℕ) (value : Any) → ReadsBack octets value → Whole 43 (attribute_text octets value)
whole_attribute_plus octets value back = whole_attribute octets value 43 plus back.type

pub whole_attribute_comma : (octets : List ℕ) (value : Any) → ReadsBack octets value → Whole 44 (attribute_text octets value)
whole_attribute_comma octets value back = whole_attribute octets value 44 comma back.type

-- ---- it isn't empty

some_behind : (front back : List ℕ) (byte : ℕ) → 0 < length (front ++ byte ∷ back)
some_behind front back byte = omega (arith, length-append front (byte ∷ back))

module _ (octets : List ℕ) (value : Any) where
  some_by_key : (found : Option Key) → key_of octets ≡ found → is_text value.tag value.value ≡ true → 0 < length (attribute_text octets value)
  some_by_key (Some key) found is = subst (λ (text : List ℕ). 0 < length text) (named_text octets value key is found) (some_behind key.name (escaped value.value) 61)
  some_by_key None found is = subst (λ (text : List ℕ). 0 < length text) (unnamed_text octets value found) (some_behind (dotted (arcs_of octets)) (35 ∷ encode_lower (value_octets value)) 61)

  pub some_attribute : 0 < length (attribute_text octets value)
  some_attribute = elim (cases_Bool (is_text value.tag value.value)) [
    | inl is ↦ some_by_key (key_of octets) refl is
    | inr not ↦ subst (λ (text : List ℕ). 0 < length text) (other_text octets value not) (some_behind (dotted (arcs_of octets)) (35 ∷ encode_lower (value_octets value)) 61)
  ]
