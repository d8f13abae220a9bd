-- Characters of the basic multilingual plane and their octets.
use Rattle.std.proofs.Common.{◌≡◌, ℕ, ◌+◌, ◌-◌, ◌*◌, ◌/◌, ◌%◌, ◌<◌, ◌≤◌, true, ◌&&◌, List, [], ◌∷◌, ◌++◌, length, take, drop, get_or, encode_utf8, encode_utf8_all, ltb, refl, append_assoc, arith}
use Rattle.std.specs.Char.{InScalarRange}
use Rattle.std.specs.List.{list_all}
use Rattle.std.proofs.lemmas.Bool.{and_parts, lt-ltb, ltb-true, true_from_ne_false}
use Rattle.std.proofs.lemmas.Bool.Decides.{nat_tests}
use Rattle.std.proofs.lemmas.List.{take_all}
use Rattle.std.proofs.lemmas.List.Folds.{list_all_at}
use Rattle.x509_prim.specs.Bmp.{is_bmp_char, bmp_octets, bmp_chars, is_bmp}

-- the octets of characters of the plane are such octets
pub is_bmp-bmp_octets : (chars : List ℕ) → list_all is_bmp_char chars ≡ true → is_bmp (bmp_octets chars) ≡ true
is_bmp-bmp_octets [] h = refl
is_bmp-bmp_octets (char ∷ chars) h =
    let parts = and_parts (is_bmp_char char) (list_all is_bmp_char chars) h in
    let low : char % 256 < 256 = omega arith in
    let same : 256 * (char / 256) + char % 256 ≡ char = omega arith in
    rw (same, lt-ltb (char % 256) 256 low, parts.0, is_bmp-bmp_octets chars parts.1) refl

-- and they are the octets of those characters alone
pub bmp_chars-bmp_octets : (chars : List ℕ) → bmp_chars (bmp_octets chars) ≡ chars
bmp_chars-bmp_octets [] = refl
bmp_chars-bmp_octets (char ∷ chars) =
    let same : 256 * (char / 256) + char % 256 ≡ char = omega arith in
    rw (same, bmp_chars-bmp_octets chars) refl

scalar : (char : ℕ) → is_bmp_char char ≡ true → InScalarRange char
unfolding is_bmp_char
scalar char h = grind (arith, nat_tests)

-- a character of a text, all of whose characters are of the plane, has two octets
pub fits_two_octets : (text : List ℕ) (i d char : ℕ) → list_all is_bmp_char text ≡ true → i < length text → char ≡ get_or text i d → char < 65536
unfolding is_bmp_char
fits_two_octets text i d char all lt at =
    let of_plane : is_bmp_char (get_or text i d) ≡ true = true_from_ne_false _ (λ no. let some = list_all_at is_bmp_char text i d lt no in cc) in
    let in_range : InScalarRange (get_or text i d) = scalar _ of_plane in
    rw at (let low = of_plane in grind (arith, nat_tests))

-- the character at the front
pub scalar_front : (octets : List ℕ) → 2 ≤ length octets → is_bmp octets ≡ true → InScalarRange (256 * get_or octets 0 0 + get_or octets 1 0)
scalar_front [] len h = absurd (omega arith)
scalar_front (high ∷ []) len h = absurd (omega arith)
scalar_front (high ∷ low ∷ octets) len h =
    scalar (256 * high + low) (and_parts (ltb low 256) (is_bmp_char (256 * high + low)) (and_parts (ltb low 256 && is_bmp_char (256 * high + low)) (is_bmp octets) h).0).1

-- one character more
pub one_char_more : (octets old new all : List ℕ) (char : ℕ) → 2 ≤ length octets → is_bmp octets ≡ true → char ≡ 256 * get_or octets 0 0 + get_or octets 1 0 → new ≡ old ++ encode_utf8 char → old ++ encode_utf8_all (bmp_chars octets) ≡ all
    → (new ++ encode_utf8_all (bmp_chars (take (length octets - 2) (drop 2 octets))) ≡ all) × (is_bmp (take (length octets - 2) (drop 2 octets)) ≡ true)
one_char_more [] old new all char len h is made before = absurd (omega arith)
one_char_more (high ∷ []) old new all char len h is made before = absurd (omega arith)
one_char_more (high ∷ low ∷ octets) old new all char len h is made before =
    let parts = and_parts (ltb low 256 && is_bmp_char (256 * high + low)) (is_bmp octets) h in
    let rest : take (length (high ∷ low ∷ octets) - 2) octets ≡ octets = take_all (length (high ∷ low ∷ octets) - 2) octets (omega arith) in
    (rw (rest, made, append_assoc old (encode_utf8 char) (encode_utf8_all (bmp_chars octets)), is) before, rw rest parts.1)

-- the octets are those of the characters that they stand for
pub bmp_octets-bmp_chars : (octets : List ℕ) → is_bmp octets ≡ true → (list_all is_bmp_char (bmp_chars octets) ≡ true) × (bmp_octets (bmp_chars octets) ≡ octets)
bmp_octets-bmp_chars [] h = (refl, refl)
bmp_octets-bmp_chars (high ∷ []) h = absurd cc
bmp_octets-bmp_chars (high ∷ low ∷ octets) h =
    let parts = and_parts (ltb low 256 && is_bmp_char (256 * high + low)) (is_bmp octets) h in
    let front = and_parts (ltb low 256) (is_bmp_char (256 * high + low)) parts.0 in
    let small : low < 256 = ltb-true low 256 front.0 in
    let rest = bmp_octets-bmp_chars octets parts.1 in
    let high_is : (256 * high + low) / 256 ≡ high = omega arith in
    let low_is : (256 * high + low) % 256 ≡ low = omega arith in
    (rw (front.1, rest.0) refl, rw (high_is, low_is, rest.1) refl)
