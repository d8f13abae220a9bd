-- Named bits by masks.
use Rattle.std.specs.Prelude.{◌≡◌, ℕ, ◌*◌, ◌^◌, ◌<◌, ◌==◌, nat_eq, refl}
use Rattle.std.specs.Int.{bit_at}
use Rattle.std.specs.Int.RustNames.{bit_and}
use Rattle.std.proofs.Common.{arith, inl, inr}
use Rattle.std.proofs.lemmas.Bool.{cases_lt, eq-eqb, ne_eqb}
use Rattle.std.proofs.lemmas.Nat.{pow_pos}
use Rattle.std.proofs.lemmas.Nat.Bits.{and_pow, bit_at-lt}
use Rattle.x509_prim.specs.BitString.{is_one}

one_or_none : (b p : ℕ) → 0 < p → b < 2 → nat_eq (b * p) p ≡ nat_eq b 1
one_or_none b p some two = elim (cases_lt b 1) [
  | inl none ↦ (let is : b ≡ 0 = omega arith in rw (is, ne_eqb (0 * p) p (λ e. omega arith)) refl)
  | inr more ↦ (let is : b ≡ 1 = omega arith in rw (is, eq-eqb (1 * p) p (omega arith)) refl)
]

-- the mask of one bit tells whether that bit is there
pub named_bit : (set n : ℕ) → (bit_and set (2 ^ n) == 2 ^ n) ≡ is_one set n
named_bit set n = rw (and_pow set n) (one_or_none (bit_at set n) (2 ^ n) (pow_pos n) (bit_at-lt set n))
