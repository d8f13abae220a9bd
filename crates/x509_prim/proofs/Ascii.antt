-- Texts of an alphabet below 80 are UTF-8.
use Rattle.std.proofs.Common.{◌≡◌, ℕ, zero, suc, ◌<◌, ◌≤◌, Bool, true, false, ◌&&◌, ltb, List, [], ◌∷◌, refl, sym, arith}
use Rattle.std.specs.Bool.{MatchBool}
use Rattle.std.specs.List.{list_all, slice_index, All}
use Rattle.std.specs.Str.{IsAscii, IsNotAscii, IsUtf8}
use Rattle.std.proofs.lemmas.Bool.{and_parts, lt-ltb}
use Rattle.std.proofs.lemmas.Bool.Decides.{nat_tests}
use Rattle.std.proofs.lemmas.Str.{IsUtf8-from_ascii}
use Rattle.std.proofs.lemmas.List.Elements.{All-nil, All-cons}
use Rattle.std.proofs.lemmas.Str.Ascii.{IsAscii-from_all}
use Rattle.x509_prim.specs.Alphabet.{is_ia5}

all_below : (has : ℕ → Bool) → ((octet : ℕ) → has octet ≡ true → octet < 128) → (octets : List ℕ) → list_all has octets ≡ true → All (λ octet. octet < 128) octets
all_below has below [] h = All-nil (λ (octet : ℕ). octet < 128)
all_below has below (octet ∷ octets) h =
    let parts = and_parts (has octet) (list_all has octets) h in
    All-cons (λ (octet : ℕ). octet < 128) octet octets (below octet parts.0) (all_below has below octets parts.1)

pub text_is_utf8 : (has : ℕ → Bool) → ((octet : ℕ) → has octet ≡ true → octet < 128) → (octets : List ℕ) → list_all has octets ≡ true → IsUtf8 octets
text_is_utf8 has below octets h = IsUtf8-from_ascii octets (IsAscii-from_all octets (all_below has below octets h))

-- ---- the characters below 80

all_ia5 : (octets : List ℕ) → IsAscii octets → list_all is_ia5 octets ≡ true
unfolding is_ia5
all_ia5 [] below = refl
all_ia5 (octet ∷ octets) below = let first : octet < 128 = below 0 in rw (lt-ltb octet 128 first) (all_ia5 octets (λ i. below (suc i)))

and_false : (b : Bool) → (b && false) ≡ false
and_false true = refl
and_false false = refl

not_all_ia5 : (octets : List ℕ) (i : ℕ) → 128 ≤ slice_index octets i → list_all is_ia5 octets ≡ false
unfolding is_ia5
not_all_ia5 [] i above = absurd (omega arith)
not_all_ia5 (octet ∷ octets) zero above = grind (arith, nat_tests)
not_all_ia5 (octet ∷ octets) (suc i) above = rw (not_all_ia5 octets i above) (and_false (ltb octet 128))

pub ascii_is_ia5 : (is : Bool) (octets : List ℕ) → MatchBool is (IsAscii octets) (IsNotAscii octets) → is ≡ list_all is_ia5 octets
ascii_is_ia5 true octets below = sym (all_ia5 octets below)
ascii_is_ia5 false octets above = sym (not_all_ia5 octets above.0 above.1)
