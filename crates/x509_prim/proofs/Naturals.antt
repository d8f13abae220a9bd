-- Octets without zeros in front, and the number that they say.
use Rattle.std.proofs.Common.{◌≡◌, ℕ, ◌+◌, ◌*◌, ◌^◌, ◌<◌, ◌≤◌, true, false, not, List, [], ◌∷◌, length, drop, length-drop, fold, nat_eq, refl, ◌∙◌, inl, inr, arith}
use Rattle.std.proofs.lemmas.Bool.{and_parts, cases_Bool, cases_lt, eqb-true}
use Rattle.std.proofs.lemmas.Bool.Decides.{nat_tests}
use Rattle.x509_prim.specs.Integer.{is_integer, is_negative, is_unsigned, number, without_zeros, with_sign}

-- digits that follow a number
abbrev pub number_from : ℕ → List ℕ → ℕ
number_from high octets = fold (λ high octet. 256 * high + octet) high octets

pub number_from-above : (high : ℕ) (octets : List ℕ) → high ≤ number_from high octets
number_from-above high [] = omega arith
number_from-above high (octet ∷ octets) = let above = number_from-above (256 * high + octet) octets in omega arith

one_more : (high : ℕ) (octets : List ℕ) → 0 < length octets → 2 ^ 120 ≤ high → 2 ^ 128 ≤ number_from high octets
one_more high [] some large = absurd (omega arith)
one_more high (octet ∷ octets) some large = let above = number_from-above (256 * high + octet) octets in omega arith

-- 120 bits, and one octet behind them
pub too_large : (high : ℕ) (octets : List ℕ) (i : ℕ) → i < length octets → 2 ^ 120 ≤ high → number_from high (drop i octets) ≡ number octets → 2 ^ 128 ≤ number octets
too_large high octets i within large is =
    let more = one_more high (drop i octets) (omega (arith, length-drop i octets)) large in
    rw is at more

pub number-without_zeros : (octets : List ℕ) → number (without_zeros octets) ≡ number octets
number-without_zeros [] = refl
number-without_zeros (first ∷ []) = refl
number-without_zeros (first ∷ second ∷ octets) = elim (cases_Bool (nat_eq first 0)) [
  | inl zero ↦ (let is : first ≡ 0 = eqb-true first 0 zero in rw is (number-without_zeros (second ∷ octets)))
  | inr some ↦ rw some refl
]

number-with_sign : (octets : List ℕ) → number (with_sign octets) ≡ number octets
number-with_sign octets = elim (cases_Bool (is_negative octets)) [ inl signed ↦ rw signed refl | inr unsigned ↦ rw unsigned refl ]

pub number-content : (octets : List ℕ) → number (with_sign (without_zeros octets)) ≡ number octets
number-content octets = number-with_sign (without_zeros octets) ∙ number-without_zeros octets

pub some_octets : (octets : List ℕ) → 0 < length octets → 0 < length (without_zeros octets)
some_octets [] h = h
some_octets (first ∷ []) h = h
some_octets (first ∷ second ∷ octets) h = elim (cases_Bool (nat_eq first 0)) [ inl zero ↦ rw zero (some_octets (second ∷ octets) (omega arith)) | inr some ↦ rw some (omega arith) ]

one_natural : (first : ℕ) → is_unsigned (with_sign (first ∷ [])) ≡ true
unfolding is_unsigned is_integer
one_natural first = elim (cases_lt first 128) [ inl low ↦ grind (arith, nat_tests) | inr high ↦ grind (arith, nat_tests) ]

more_natural : (first second : ℕ) (octets : List ℕ) → nat_eq first 0 ≡ false → is_unsigned (with_sign (first ∷ second ∷ octets)) ≡ true
unfolding is_unsigned is_integer
more_natural first second octets some = elim (cases_lt first 128) [ inl low ↦ grind (arith, nat_tests) | inr high ↦ grind (arith, nat_tests) ]

pub is_unsigned-content : (octets : List ℕ) → 0 < length octets → is_unsigned (with_sign (without_zeros octets)) ≡ true
is_unsigned-content [] h = absurd (omega arith)
is_unsigned-content (first ∷ []) h = one_natural first
is_unsigned-content (first ∷ second ∷ octets) h = elim (cases_Bool (nat_eq first 0)) [ inl zero ↦ rw zero (is_unsigned-content (second ∷ octets) (omega arith)) | inr some ↦ rw some (more_natural first second octets some) ]

pub is_unsigned-is_integer : (octets : List ℕ) → is_unsigned octets ≡ true → is_integer octets ≡ true
unfolding is_unsigned
is_unsigned-is_integer octets h = (and_parts (is_integer octets) (not (is_negative octets)) h).0

pub is_unsigned-some : (octets : List ℕ) → is_unsigned octets ≡ true → 0 < length octets
unfolding is_unsigned is_integer
is_unsigned-some [] h = absurd cc
is_unsigned-some (first ∷ octets) h = omega arith
