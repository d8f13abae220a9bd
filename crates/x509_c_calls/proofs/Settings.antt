-- A number at the front of octets.
use Rattle.std.proofs.Common.{◌≡◌, ℕ, zero, suc, ◌+◌, ◌*◌, ◌/◌, ◌%◌, ◌==◌, refl, ◌<◌, ◌≤◌, ◌⊎◌, List, ◌++◌, length, take, drop, get_or, length-take, sym, ap, ◌∙◌, inl, inr, arith}
use Rattle.std.proofs.lemmas.Bool.{cases_lt}
use Rattle.std.proofs.lemmas.List.{get_or-take, get_or_past, take-append-drop}
use Rattle.std.proofs.lemmas.Nat.{le_bytes_8}
use Rattle.std.specs.Int.{from_le_bytes, to_le_bytes, w64}
use Rattle.x509_c_calls.specs.PayloadExtensions.{flag}

module _ (octets front behind : List ℕ) (n : ℕ) (is_front : front ≡ take 8 octets) (is_behind : behind ≡ drop 8 octets) (long : 8 ≤ length octets)
    (small : (i : ℕ) → get_or octets i 0 < 256) where
  eight : length front ≡ 8
  eight = omega (arith, ap length is_front, length-take 8 octets)

  front_small : (i : ℕ) → (i < 8) ⊎ (8 ≤ i) → get_or front i 0 < 256
  front_small i (inl within) = omega (arith, small i, ap (λ xs. get_or xs i 0) is_front, get_or-take 8 octets i 0 within)
  front_small i (inr past) = omega (arith, get_or_past front i 0 (omega (arith, eight)))

  -- octets begin with the number that their first eight are
  pub begins_with_number : n ≡ from_le_bytes w64 front → octets ≡ to_le_bytes w64 n ++ behind
  begins_with_number is =
      let written : to_le_bytes w64 n ≡ take 8 octets = le_bytes_8 front n eight (λ i. front_small i (cases_lt i 8)) is ∙ is_front in
      let whole : take 8 octets ++ drop 8 octets ≡ octets = take-append-drop 8 octets in
      sym (ap (λ xs. xs ++ behind) written ∙ ap (λ xs. take 8 octets ++ xs) is_behind ∙ whole)

-- ---- flags

flag_bit : (n : ℕ) → n < 2 → flag (n == 1) ≡ n
flag_bit zero less = refl
flag_bit (suc zero) less = refl
flag_bit (suc (suc n)) less = absurd (omega (arith, less))

-- a number below 64 is the sum of its bits
pub six_flags : (n : ℕ) → n < 64
    → flag (n % 2 == 1) + (2 * flag (n / 2 % 2 == 1) + (4 * flag (n / 4 % 2 == 1)
    + (8 * flag (n / 8 % 2 == 1) + (16 * flag (n / 16 % 2 == 1) + 32 * flag (n / 32 == 1))))) ≡ n
six_flags n less =
    let second : n / 4 ≡ n / 2 / 2 = omega arith in
    let third : n / 8 ≡ n / 4 / 2 = omega arith in
    let fourth : n / 16 ≡ n / 8 / 2 = omega arith in
    let fifth : n / 32 ≡ n / 16 / 2 = omega arith in
    let last : n / 32 < 2 = omega (arith, less) in
    rw (
      flag_bit (n % 2) (omega arith),
      flag_bit (n / 2 % 2) (omega arith),
      flag_bit (n / 4 % 2) (omega arith),
      flag_bit (n / 8 % 2) (omega arith),
      flag_bit (n / 16 % 2) (omega arith),
      flag_bit (n / 32) last,
    ) (omega (arith, second, third, fourth, fifth))
