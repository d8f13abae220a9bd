-- Halves of a node's number, and powers of two.
use Rattle.std.proofs.Common.{◌≡◌, ◌∙◌, ℕ, zero, suc, ◌+◌, ◌/◌, ◌%◌, ◌^◌, ◌<◌, ◌≤◌, ◌⊎◌, inl, inr, List, [], ◌∷◌, length, refl, sym, ap, arith}
use Rattle.std.proofs.Math.Nat.{pow-suc, div-eq_of_lt, div-eq_of_lt-le}
use Rattle.std.proofs.Math.Pow.{pow_mono}
use Rattle.std.proofs.lemmas.Bool.{cases_lt}
use Rattle.std.proofs.lemmas.Nat.{shr-shr}

pub doubled : (l : ℕ) → 2 ^ suc l ≡ 2 ^ l + 2 ^ l
doubled l = omega (arith, pow-suc 2 l)

pub below_power : (n : ℕ) → n < 2 ^ n
below_power zero = omega arith
below_power (suc n) = omega (arith, doubled n, below_power n)

pub whole_half : (n : ℕ) → n / 2 ^ 0 ≡ n
whole_half n = omega arith

pub half_again : (n l : ℕ) → n / 2 / 2 ^ l ≡ n / 2 ^ suc l
half_again n l = shr-shr n 1 l ∙ ap (λ k. n / 2 ^ k) (omega arith)

pub none_above : (n l : ℕ) → n < 2 ^ l → n / 2 ^ l ≡ 0
none_above n l h = div-eq_of_lt h

pub one_above : (n l : ℕ) → 2 ^ l ≤ n → n < 2 ^ suc l → n / 2 ^ l ≡ 1
one_above n l h k = div-eq_of_lt-le {k = 1} (2 ^ l) (omega arith) (omega (arith, doubled l))

pub odd_or_even : (n : ℕ) → (n % 2 ≡ 1) ⊎ (n % 2 ≡ 0)
odd_or_even n = elim (cases_lt (n % 2) 1) [ inl few ↦ inr (omega arith) | inr one ↦ inl (omega arith) ]

-- what is the same one level above those that are needed is the same at each such level
levels_up : {X : Type 0} (f : ℕ → X) (n : ℕ) → ((l : ℕ) → n ≤ 2 ^ l → f (suc l) ≡ f l) → (d l : ℕ) → n ≤ 2 ^ l → f (d + l) ≡ f l
levels_up f n up zero l few = ap f (omega arith)
levels_up f n up (suc d) l few =
    let more : n ≤ 2 ^ (d + l) = omega (arith, pow_mono {i = l} {j = d + l} (omega arith)) in
    let e : suc d + l ≡ suc (d + l) = omega arith in
    rw e (up (d + l) more ∙ levels_up f n up d l few)

pub same_levels : {X : Type 0} (f : ℕ → X) (n : ℕ) → ((l : ℕ) → n ≤ 2 ^ l → f (suc l) ≡ f l) → (l k : ℕ) → n ≤ 2 ^ l → n ≤ 2 ^ k → f l ≡ f k
same_levels f n up l k few less =
    let e : k + l ≡ l + k = omega arith in
    sym (levels_up f n up k l few) ∙ ap f e ∙ levels_up f n up l k less

pub length_zero : {X : Type 0} (xs : List X) → length xs ≡ 0 → xs ≡ []
length_zero [] e = refl
length_zero (x ∷ xs) e = absurd (omega (arith, e))
