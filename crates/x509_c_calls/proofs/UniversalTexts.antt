-- The characters of a UniversalString, one after the other.
use Rattle.std.proofs.Common.{◌≡◌, ◌<◌, ◌≤◌, ◌-◌, ◌∙◌, ℕ, Bool, true, false, ◌&&◌, List, [], ◌∷◌, ◌++◌, ◌==◌, length, take, drop, get_or, encode_utf8, encode_utf8_all, refl, sym, append_assoc, arith, Some, None}
use Rattle.std.proofs.lemmas.Bool.Decides.{nat_tests}
use Rattle.std.proofs.lemmas.List.{append-nil, take_all}
use Rattle.std.specs.Char.{InScalarRange, OutOfScalarRange}
use Rattle.x509_c_calls.specs.Universal.{char_of, is_universal, is_universal_char, universal_chars, universal_text}

is_char : (char : ℕ) → InScalarRange char → is_universal_char char ≡ true
unfolding is_universal_char
is_char char h = grind (arith, nat_tests)

no_char : (char : ℕ) → OutOfScalarRange char → is_universal_char char ≡ false
unfolding is_universal_char
no_char char h = grind (arith, nat_tests)

-- the number at the front
abbrev pub front : List ℕ → ℕ
front octets = char_of (get_or octets 0 0) (get_or octets 1 0) (get_or octets 2 0) (get_or octets 3 0)

-- one character more
pub one_char_more : (octets old new all : List ℕ) (char : ℕ) → 4 ≤ length octets → InScalarRange (front octets) → char ≡ front octets → new ≡ old ++ encode_utf8 char → old ++ encode_utf8_all (universal_chars octets) ≡ all
    → (new ++ encode_utf8_all (universal_chars (take (length octets - 4) (drop 4 octets))) ≡ all) × (is_universal (take (length octets - 4) (drop 4 octets)) ≡ is_universal octets)
one_char_more [] old new all char len range is made before = absurd (omega arith)
one_char_more (a ∷ []) old new all char len range is made before = absurd (omega arith)
one_char_more (a ∷ b ∷ []) old new all char len range is made before = absurd (omega arith)
one_char_more (a ∷ b ∷ c ∷ []) old new all char len range is made before = absurd (omega arith)
one_char_more (a ∷ b ∷ c ∷ d ∷ octets) old new all char len range is made before =
    let rest : take (length (a ∷ b ∷ c ∷ d ∷ octets) - 4) octets ≡ octets = take_all (length (a ∷ b ∷ c ∷ d ∷ octets) - 4) octets (omega arith) in
    let good : is_universal_char (char_of a b c d) ≡ true = is_char (char_of a b c d) range in
    (rw (rest, made, append_assoc old (encode_utf8 char) (encode_utf8_all (universal_chars octets)), is) before, rw (rest, good) refl)

-- no character stands at the front
pub no_front : (octets : List ℕ) → 4 ≤ length octets → OutOfScalarRange (front octets) → is_universal octets ≡ false
no_front [] len range = absurd (omega arith)
no_front (a ∷ []) len range = absurd (omega arith)
no_front (a ∷ b ∷ []) len range = absurd (omega arith)
no_front (a ∷ b ∷ c ∷ []) len range = absurd (omega arith)
no_front (a ∷ b ∷ c ∷ d ∷ octets) len range =
    let bad : is_universal_char (char_of a b c d) ≡ false = no_char (char_of a b c d) range in
    rw bad refl

-- fewer octets than a character has
pub too_short : (octets : List ℕ) → length octets < 4 → (length octets == 0) ≡ false → is_universal octets ≡ false
too_short [] len some = absurd cc
too_short (a ∷ []) len some = refl
too_short (a ∷ b ∷ []) len some = refl
too_short (a ∷ b ∷ c ∷ []) len some = refl
too_short (a ∷ b ∷ c ∷ d ∷ octets) len some = absurd (omega arith)

pub no_text : (octets : List ℕ) → is_universal octets ≡ false → universal_text octets ≡ None
unfolding universal_text
no_text octets h = rw h refl

-- nothing is left
pub text_is : (octets rest text : List ℕ) → (length rest == 0) ≡ true → text ++ encode_utf8_all (universal_chars rest) ≡ encode_utf8_all (universal_chars octets) → is_universal rest ≡ is_universal octets → universal_text octets ≡ Some text
unfolding universal_text
text_is octets [] text none is same = rw (sym same, sym is, append-nil text) refl
text_is octets (octet ∷ rest) text none is same = absurd (let empty : length (octet ∷ rest) ≡ 0 = grind (arith, nat_tests) in omega arith)
