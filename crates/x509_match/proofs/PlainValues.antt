-- Attributes whose values are compared without memory.
use Rattle.std.proofs.Common.{◌≡◌, ◌↔◌, ℕ, ◌<◌, Bool, true, false, List, [], ◌∷◌, length, map, bytes_eq, nat_eq, Option, ◌⊎◌, Some, None, IsTrue, refl, sym, ap, ◌∙◌, arith, inl, inr}
use Rattle.std.proofs.lemmas.Bool.{cases_Bool, eqb-true}
use Rattle.std.proofs.lemmas.Str.{chars-IsAscii, is_utf8-from_IsUtf8, IsUtf8-from_ascii}
use Rattle.std.specs.Char.{to_ascii_lowercase}
use Rattle.std.specs.Cmp.Lexicographic.{bytes_decides}
use Rattle.std.specs.List.{list_all}
use Rattle.x509_der.specs.declared.any.Any.{Any}
use Rattle.x509_der.specs.Tag.{octet_of}
use Rattle.x509_der.specs.TagReading.{same_tag}
use Rattle.x509_der.specs.declared.tag.Tag.{Tag}
use Rattle.x509_der.specs.declared.tag.Tag.TheVariants.{PrintableString, Ia5String, TeletexString}
use Rattle.x509_name.specs.AttributeTypes as types
use Rattle.x509_name.specs.declared.attr.type_and_value.AttributeTypeAndValue.{AttributeTypeAndValue}
use Rattle.x509_prim.specs.Alphabet.{is_ia5}
use Rattle.x509_match.proofs.AttributesAgree.{attributes_agree}
use Rattle.x509_match.proofs.PlainTexts.{prepared_ascii}
use Rattle.x509_match.proofs.Values.{ascii_is}
use Rattle.x509_match.specs.Keys.{ascii_characters, utf8_characters, characters, is_caseless, compared, compared_value, octets_key}
use Rattle.x509_match.specs.Plain.{plain_behind, IsPlainText}

pub ascii_text : (content : List ℕ) → list_all is_ia5 content ≡ true → ascii_characters content ≡ Some content
unfolding ascii_characters
ascii_text content h = rw h (ap Some (chars-IsAscii content (ascii_is content h)))

pub no_ascii_text : (content : List ℕ) → list_all is_ia5 content ≡ false → ascii_characters content ≡ None
unfolding ascii_characters
no_ascii_text content h = rw h refl

pub utf8_text : (content : List ℕ) → list_all is_ia5 content ≡ true → utf8_characters content ≡ Some content
unfolding utf8_characters
utf8_text content h =
    let ascii = ascii_is content h in
    rw (is_utf8-from_IsUtf8 content (IsUtf8-from_ascii content ascii)) (ap Some (chars-IsAscii content ascii))

both : (x y : Option (List ℕ)) (s t : List ℕ) → x ≡ Some s → y ≡ Some t → (s ≡ t) ↔ (x ≡ y)
both x y s t p q = (λ e. p ∙ ap Some e ∙ sym q, λ e. let k : Some s ≡ Some t = sym p ∙ e ∙ q in cc)

pub labels : (oid a b : List ℕ) → is_caseless oid ≡ true → (map to_ascii_lowercase a ≡ map to_ascii_lowercase b) ↔ (compared oid a ≡ compared oid b)
unfolding compared
labels oid a b h = rw h (both (Some (map to_ascii_lowercase a)) (Some (map to_ascii_lowercase b)) _ _ refl refl)

pub others : (oid a b : List ℕ) → is_caseless oid ≡ false → list_all is_ia5 a ≡ true → list_all is_ia5 b ≡ true
    → (plain_behind false false a ≡ plain_behind false false b) ↔ (compared oid a ≡ compared oid b)
unfolding compared
others oid a b h p q = rw h (both _ _ _ _ (prepared_ascii a p) (prepared_ascii b q))

-- an ASCII text is compared as a text
plain_compared : (oid a : List ℕ) → list_all is_ia5 a ≡ true → (s : List ℕ) × (compared oid a ≡ Some s)
unfolding compared
plain_compared oid a h = elim (cases_Bool (is_caseless oid)) [
  | inl caseless ↦ (map to_ascii_lowercase a, rw caseless refl)
  | inr text ↦ (plain_behind false false a, rw text (prepared_ascii a h))
]

abbrev attribute : List ℕ → Tag → List ℕ → AttributeTypeAndValue
attribute oid tag content = record { oid = oid; value = record { tag = tag; value = content } }

pub text_keys : (oid : List ℕ) (s t : Tag) (a b : List ℕ) → list_all is_ia5 a ≡ true → characters s a ≡ Some a → characters t b ≡ Some b
    → (compared oid a ≡ compared oid b) ↔ (octets_key oid s a ≡ octets_key oid t b)
text_keys oid s t a b ascii p q =
    let agree = attributes_agree (attribute oid s a) (attribute oid t b) in
    let left : compared_value oid (characters s a) ≡ compared oid a = ap (compared_value oid) p in
    let right : compared_value oid (characters t b) ≡ compared oid b = ap (compared_value oid) q in
    let some = plain_compared oid a ascii in (
      λ e. agree.1 (refl, inr (some.0, left ∙ some.1, right ∙ sym e ∙ some.1)),
      λ k. elim (agree.0 k).1 [
        | inl same ↦ let content : a ≡ b = ap (λ (v : Any). v.value) same in ap (compared oid) content
        | inr found ↦ sym left ∙ found.1 ∙ sym found.2 ∙ right
      ],
    )

abbrev pub Differ : Tag → Tag → List ℕ → List ℕ → Type 0
Differ s t a b = s ≡ t → a ≡ b → ⊥

-- elements of which one is no text
pub no_keys : (oid : List ℕ) (s t : Tag) (a b : List ℕ) → Differ s t a b → characters s a ≡ None → octets_key oid s a ≡ octets_key oid t b → ⊥
no_keys oid s t a b apart p k =
    let agree = attributes_agree (attribute oid s a) (attribute oid t b) in
    let left : compared_value oid (characters s a) ≡ None = ap (compared_value oid) p in
    elim (agree.0 k).1 [
      | inl same ↦ apart (ap (λ (v : Any). v.tag) same) (ap (λ (v : Any). v.value) same)
      | inr found ↦ absurd (let e : None ≡ Some found.0 = sym left ∙ found.1 in cc)
    ]

pub printable_text : (r : Bool) (content : List ℕ) → r ≡ list_all is_ia5 content → IsPlainText r PrintableString content
printable_text true content h = (sym h, ascii_text content (sym h))
printable_text false content h = no_ascii_text content (sym h)

pub ia5_text : (r : Bool) (content : List ℕ) → r ≡ list_all is_ia5 content → IsPlainText r Ia5String content
ia5_text true content h = (sym h, ascii_text content (sym h))
ia5_text false content h = no_ascii_text content (sym h)

pub teletex_text : (r : Bool) (content : List ℕ) → r ≡ list_all is_ia5 content → IsPlainText r TeletexString content
teletex_text true content h = (sym h, ascii_text content (sym h))
teletex_text false content h = no_ascii_text content (sym h)

pub no_text : (r : Bool) (s : Tag) (a : List ℕ) → IsPlainText r s a → r ≡ false → characters s a ≡ None
no_text true s a h e = absurd cc
no_text false s a h e = h

pub a_text : (r : Bool) (s : Tag) (a : List ℕ) → IsPlainText r s a → r ≡ true → (list_all is_ia5 a ≡ true) × (characters s a ≡ Some a)
a_text true s a h e = h
a_text false s a h e = absurd cc

pub not_alike : (oid : List ℕ) (s t : Tag) (a b : List ℕ) → Differ s t a b → ((characters s a ≡ None) ⊎ (characters t b ≡ None)) → IsTrue false ↔ (octets_key oid s a ≡ octets_key oid t b)
not_alike oid s t a b apart h = (
  λ e. absurd cc,
  λ k. elim h [
    | inl left ↦ absurd (no_keys oid s t a b apart left k)
    | inr right ↦ absurd (no_keys oid t s b a (λ e f. apart (sym e) (sym f)) right (sym k))
  ],
)

pub one_element : (s t : Tag) (a b : List ℕ) (r : Bool) → octet_of s ≡ octet_of t → r ≡ bytes_eq a b → IsTrue r ↔ ((s ≡ t) × (a ≡ b))
one_element s t a b r e h = (λ k. (same_tag s t e, (bytes_decides a b).0 (sym h ∙ k)), λ m. h ∙ (bytes_decides a b).1 m.1)
