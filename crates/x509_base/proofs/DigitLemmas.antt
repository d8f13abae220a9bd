-- What a formatter writes of a number that is filled up with zeros.
use Rattle.std.proofs.Common.{◌≡◌, ℕ, ◌-◌, ◌/◌, ◌%◌, ◌^◌, ◌<◌, ◌≤◌, inl, inr, false, List, [], refl, arith}
use Rattle.std.specs.Fmt.{decimal, padded_integral, format_spec, char_count}
use Rattle.std.proofs.lemmas.Fmt.{decimal_digit, decimal_step}
use Rattle.std.proofs.lemmas.Bool.{cases_order}
use Rattle.x509_base.specs.TimeText.{two_digits, four_digits}

-- the number, with zeros before it up to the width
abbrev pub zero_filled : ℕ → ℕ → List ℕ
zero_filled width n = padded_integral (format_spec 32 0 4 width (2 ^ 64 - 1)) false [] (decimal n)

decimal-two : (n : ℕ) → 10 ≤ n → n < 100 → decimal n ≡ two_digits n
decimal-two n low high = rw (decimal_step n low (omega arith), decimal_digit (n / 10) (omega arith)) refl

one_wide : (n : ℕ) → n < 10 → zero_filled 2 n ≡ two_digits n
unfolding padded_integral char_count
one_wide n high =
    let front : n / 10 ≡ 0 = omega arith in
    let back : n % 10 ≡ n = omega arith in
    rw (decimal_digit n high, front, back) refl

full_wide : (n : ℕ) → 10 ≤ n → n < 100 → zero_filled 2 n ≡ two_digits n
unfolding padded_integral char_count
full_wide n low high = rw (decimal-two n low high) refl

-- `{n:02}`
pub zero_filled-two : (n : ℕ) → n < 100 → zero_filled 2 n ≡ two_digits n
zero_filled-two n high =
    elim (cases_order n 10) [
      | inl ten ↦ full_wide n (omega arith) high
      | inr (inl lt) ↦ one_wide n lt
      | inr (inr gt) ↦ full_wide n (omega arith) high
    ]

decimal-four : (n : ℕ) → 1000 ≤ n → n < 10000 → decimal n ≡ four_digits n
decimal-four n low high =
    let three : n / 10 / 10 ≡ n / 100 = omega arith in
    let ten : n / 10 % 10 ≡ n % 100 / 10 = omega arith in
    let one : n % 10 ≡ n % 100 % 10 = omega arith in
    rw (decimal_step n (omega arith) (omega arith), decimal_step (n / 10) (omega arith) (omega arith), three, decimal-two (n / 100) (omega arith) (omega arith), ten, one) refl

-- `{n:04}`
pub zero_filled-four : (n : ℕ) → 1000 ≤ n → n < 10000 → zero_filled 4 n ≡ four_digits n
unfolding padded_integral char_count
zero_filled-four n low high = rw (decimal-four n low high) refl
