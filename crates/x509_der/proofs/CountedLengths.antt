-- The loops over the digits of a number.
use Rattle.std.proofs.Common.{◌≡◌, ℕ, zero, suc, ◌+◌, ◌-◌, ◌/◌, ◌<◌, ◌≤◌, refl, arith}
use Rattle.std.proofs.lemmas.Bool.{lt-ltb, le-ltb}
use Rattle.x509_der.specs.NaturalLaws.{bound}
use Rattle.x509_der.specs.NumberOrder.{further, front}

-- count digits of the number were passed, and rest has as many left as there can be
pub record Counted (number count rest : ℕ) : Type 0 where
  pub left : ℕ
  pub whole : count + left ≡ 16
  pub enough : rest < bound left
  pub so_far : further 16 number ≡ count + further left rest

pub counted_first : (number : ℕ) → number < bound 16 → Counted number 0 number
counted_first number lt = record { left = 16; whole = refl; enough = lt; so_far = omega arith }

one_more : (k rest : ℕ) → 128 ≤ rest → rest < bound k → (j : ℕ) × ((k ≡ j + 1) × ((rest / 256 < bound j) × (further k rest ≡ further j (rest / 256) + 1)))
unfolding further
one_more zero rest le lt = absurd (omega (arith, le, lt))
one_more (suc j) rest le lt = (j, (omega arith, (omega (arith, lt), rw (le-ltb rest 128 le) (omega arith))))

pub counted_next : (number count rest : ℕ) → 128 ≤ rest → Counted number count rest → Counted number (count + 1) (rest / 256)
counted_next number count rest le s =
    let k = one_more s.left rest le s.enough in
    record { left = k.0; whole = omega (arith, s.whole, k.1.0); enough = k.1.1.0; so_far = omega (arith, s.so_far, k.1.1.1) }

none_more : (k rest : ℕ) → rest < 128 → further k rest ≡ 0
unfolding further
none_more zero rest lt = refl
none_more (suc k) rest lt = rw (lt-ltb rest 128 lt) refl

pub counted_last : (number count rest : ℕ) → rest < 128 → Counted number count rest → count ≡ further 16 number
counted_last number count rest lt s = omega (arith, s.so_far, none_more s.left rest lt)

pub counted_few : (number count rest : ℕ) → Counted number count rest → count ≤ 16
counted_few number count rest s = omega (arith, s.whole)

pub front_next : (left rest : ℕ) → 0 < left → front (left - 1) (rest / 256) ≡ front left rest
front_next zero rest pos = absurd (omega arith)
front_next (suc k) rest pos = let less : suc k - 1 ≡ k = omega arith in rw less refl
