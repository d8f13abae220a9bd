-- What the octets are made of that an attribute is compared by.
use Rattle.std.proofs.Common.{◌≡◌, ℕ, zero, suc, ◌+◌, ◌*◌, ◌-◌, ◌<◌, ◌≤◌, Bool, true, false, cond, List, [], ◌∷◌, ◌++◌, length, take, drop, get_or, map, count_by, nat_eq, nat_lt, bytes_eq, encode_utf8, encode_utf8_all, IsUtf8, IsAscii, chars, if◌then◌else◌, Option, Some, None, MatchOption, SomeIff, option_map, Ok, Err, refl, sym, ap, inl, inr, lit<, ◌∙◌, append_assoc, arith}
use Rattle.std.proofs.lemmas.Bool.{cases_Bool, and_parts, eqb-true, ltb-true}
use Rattle.std.proofs.lemmas.List.{append-nil, take_all}
use Rattle.std.proofs.lemmas.Bool.Decides.{nat_tests}
use Rattle.std.proofs.lemmas.Str.{encodes-chars, encodes-IsAscii, chars-IsAscii, IsUtf8-from_is_utf8}
use Rattle.std.specs.Char.{InScalarRange, IsScalar, OutOfScalarRange, to_ascii_lowercase}
use Rattle.std.specs.List.{list_all}
use Rattle.std.specs.Str.{is_utf8}
use Rattle.x509_der.specs.Arcs.{subidentifier}
use Rattle.x509_der.specs.OutcomeLaws.{ok_is, test_ok}
use Rattle.x509_der.specs.Tested.{tested_reading}
use Rattle.x509_der.specs.declared.error.ErrorKind.TheVariants.{Malformed}
use Rattle.x509_match.proofs.Texts.{chars_are}
use Rattle.x509_match.specs.Keys.{ascii_characters, utf8_characters, bmp_characters, universal_characters, code_of, is_character, is_caseless, compared, compared_value}
use Rattle.x509_match.specs.Prepared.{prepared}
use Rattle.x509_name.specs.AttributeTypes as types
use Rattle.x509_prim.specs.Alphabet.{is_ia5}
use Rattle.x509_prim.specs.Bmp.{is_bmp, bmp_chars}

pub email_address_octets : types.email_address ≡ 0x2A ∷ 0x86 ∷ 0x48 ∷ 0x86 ∷ 0xF7 ∷ 0x0D ∷ 0x01 ∷ 0x09 ∷ 0x01 ∷ []
unfolding subidentifier
email_address_octets = refl

pub domain_component_octets : types.domain_component ≡ 0x09 ∷ 0x92 ∷ 0x26 ∷ 0x89 ∷ 0x93 ∷ 0xF2 ∷ 0x2C ∷ 0x64 ∷ 0x01 ∷ 0x19 ∷ []
unfolding subidentifier
domain_component_octets = refl

-- ---- texts

pub ascii_is : (octets : List ℕ) → list_all is_ia5 octets ≡ true → IsAscii octets
unfolding is_ia5
ascii_is [] h i = lit< tt
ascii_is (octet ∷ octets) h zero = ltb-true octet 128 (and_parts (nat_lt octet 128) (list_all is_ia5 octets) h).0
ascii_is (octet ∷ octets) h (suc i) = ascii_is octets (and_parts (nat_lt octet 128) (list_all is_ia5 octets) h).1 i

pub ascii_owned : (octets owned : List ℕ) → list_all is_ia5 octets ≡ true → owned ≡ octets → Some owned ≡ option_map encode_utf8_all (ascii_characters octets)
unfolding ascii_characters
ascii_owned octets owned h e =
    let a = ascii_is octets h in
    rw h (ap Some (e ∙ sym (encodes-IsAscii octets a) ∙ ap encode_utf8_all (sym (chars-IsAscii octets a))))

pub utf8_owned : (octets owned : List ℕ) → is_utf8 octets ≡ true → owned ≡ octets → Some owned ≡ option_map encode_utf8_all (utf8_characters octets)
unfolding utf8_characters
utf8_owned octets owned h e = rw h (ap Some (e ∙ sym (encodes-chars octets (IsUtf8-from_is_utf8 octets h))))

pub bmp_owned : (octets string owned : List ℕ) → tested_reading is_bmp octets ≡ Ok string → owned ≡ encode_utf8_all (bmp_chars string) → Some owned ≡ option_map encode_utf8_all (bmp_characters octets)
unfolding bmp_characters tested_reading
bmp_owned octets string owned h e =
    let t = test_ok (is_bmp octets) Malformed (Ok octets) string h in
    rw t.0 (ap Some (e ∙ ap (λ x. encode_utf8_all (bmp_chars x)) (sym (ok_is octets string t.1))))

pub bmp_refused : (octets : List ℕ) → tested_reading is_bmp octets ≡ Err Malformed → None ≡ option_map encode_utf8_all (bmp_characters octets)
unfolding bmp_characters tested_reading
bmp_refused octets h = elim (cases_Bool (is_bmp octets)) [
  | inl is ↦ absurd (let k = rw is at h in cc)
  | inr other ↦ rw other refl
]

-- ---- UniversalString

pub a_character : (code : ℕ) → InScalarRange code → is_character code ≡ true
unfolding is_character
a_character code h = grind (arith, nat_tests)

pub no_character : (code : ℕ) → OutOfScalarRange code → is_character code ≡ false
unfolding is_character
no_character code h = grind (arith, nat_tests)

-- what `from_u32` answers
pub some_character : (code : ℕ) (found : Option ℕ) → SomeIff found (IsScalar code) code → MatchOption found (OutOfScalarRange code) (λ c. InScalarRange code) →
    MatchOption found (is_character code ≡ false) (λ c. (is_character code ≡ true) × (c ≡ code))
some_character code None value cases = no_character code cases
some_character code (Some c) value cases = (a_character code cases, value.1)

-- what is found, with the rest of the octets behind it
abbrev pub AreBehind : List ℕ → List ℕ → List ℕ → Type 0
AreBehind found rest content =
    option_map (λ behind. found ++ encode_utf8_all behind) (universal_characters rest) ≡ option_map encode_utf8_all (universal_characters content)

-- one character more
pub one_in_four_more : (rest old new content : List ℕ) (char : ℕ) → 4 ≤ length rest →
    is_character (code_of (get_or rest 0 0) (get_or rest 1 0) (get_or rest 2 0) (get_or rest 3 0)) ≡ true →
    char ≡ code_of (get_or rest 0 0) (get_or rest 1 0) (get_or rest 2 0) (get_or rest 3 0) → new ≡ old ++ encode_utf8 char →
    AreBehind old rest content → AreBehind new (take (length rest - 4) (drop 4 rest)) content
one_in_four_more [] old new content char len ok is made before = absurd (omega arith)
one_in_four_more (a ∷ []) old new content char len ok is made before = absurd (omega arith)
one_in_four_more (a ∷ b ∷ []) old new content char len ok is made before = absurd (omega arith)
one_in_four_more (a ∷ b ∷ c ∷ []) old new content char len ok is made before = absurd (omega arith)
one_in_four_more (a ∷ b ∷ c ∷ d ∷ behind) old new content char len ok is made before =
    let rest : take (length (a ∷ b ∷ c ∷ d ∷ behind) - 4) behind ≡ behind = take_all (length (a ∷ b ∷ c ∷ d ∷ behind) - 4) behind (omega arith) in
    let opened = rw ok at before in
    rw rest (by_rest (universal_characters behind) ∙ opened)
  where
    by_rest : (found : Option (List ℕ)) → option_map (λ later. new ++ encode_utf8_all later) found
        ≡ option_map (λ later. old ++ encode_utf8_all later) (option_map (λ later. code_of a b c d ∷ later) found)
    by_rest None = refl
    by_rest (Some later) = ap Some (rw (made, is) (append_assoc old (encode_utf8 (code_of a b c d)) (encode_utf8_all later)))

pub no_more_of_four : (rest found content : List ℕ) → length rest < 4 → nat_eq (length rest) 0 ≡ true → AreBehind found rest content →
    Some found ≡ option_map encode_utf8_all (universal_characters content)
no_more_of_four [] found content len none before = ap Some (sym (append-nil found)) ∙ before
no_more_of_four (a ∷ rest) found content len none before = absurd (let n = eqb-true (length (a ∷ rest)) 0 none in omega arith)

pub some_of_four : (rest found content : List ℕ) → length rest < 4 → nat_eq (length rest) 0 ≡ false → AreBehind found rest content →
    None ≡ option_map encode_utf8_all (universal_characters content)
some_of_four [] found content len some before = absurd cc
some_of_four (a ∷ []) found content len some before = before
some_of_four (a ∷ b ∷ []) found content len some before = before
some_of_four (a ∷ b ∷ c ∷ []) found content len some before = before
some_of_four (a ∷ b ∷ c ∷ d ∷ rest) found content len some before = absurd (omega arith)

pub none_in_four : (rest found content : List ℕ) → 4 ≤ length rest →
    is_character (code_of (get_or rest 0 0) (get_or rest 1 0) (get_or rest 2 0) (get_or rest 3 0)) ≡ false →
    AreBehind found rest content → None ≡ option_map encode_utf8_all (universal_characters content)
none_in_four [] found content len not_one before = absurd (omega arith)
none_in_four (a ∷ []) found content len not_one before = absurd (omega arith)
none_in_four (a ∷ b ∷ []) found content len not_one before = absurd (omega arith)
none_in_four (a ∷ b ∷ c ∷ []) found content len not_one before = absurd (omega arith)
none_in_four (a ∷ b ∷ c ∷ d ∷ behind) found content len not_one before = let opened = rw not_one at before in opened

-- ---- what is compared

pub compared-caseless : (oid text found : List ℕ) → is_caseless oid ≡ true → found ≡ encode_utf8_all (map to_ascii_lowercase text)
    → Some found ≡ option_map encode_utf8_all (compared oid text)
unfolding compared
compared-caseless oid text found h e = rw h (ap Some e)

pub compared-other : (oid text : List ℕ) → is_caseless oid ≡ false → compared oid text ≡ prepared text
unfolding compared
compared-other oid text h = rw h refl

pub no_value : (oid : List ℕ) (text : Option (List ℕ)) → None ≡ option_map encode_utf8_all text → None ≡ option_map encode_utf8_all (compared_value oid text)
no_value oid None e = refl
no_value oid (Some text) e = absurd cc

pub one_value : (oid owned : List ℕ) (text : Option (List ℕ)) (found : Option (List ℕ)) → IsUtf8 owned → Some owned ≡ option_map encode_utf8_all text → found ≡ option_map encode_utf8_all (compared oid (chars owned))
    → found ≡ option_map encode_utf8_all (compared_value oid text)
one_value oid owned None found utf8 e is = absurd cc
one_value oid owned (Some text) found utf8 e is =
    let same : owned ≡ encode_utf8_all text = cc in
    rw (← chars_are owned text utf8 same) is
