-- The place of the first octet that passes a test.
use Rattle.std.proofs.Common.{◌≡◌, ℕ, ◌<◌, ◌≤◌, Bool, true, false, List, length, get_or, sym, arith}
use Rattle.std.proofs.lemmas.List.Sums.{position_or_len_is}
use Rattle.std.specs.List.{position_or_len}

pub first_at : (p : ℕ → Bool) (xs : List ℕ) (i : ℕ) → i < length xs → ((k : ℕ) → k < i → p (get_or xs k 0) ≡ false) → p (get_or xs i 0) ≡ true →
    i ≡ position_or_len p xs
first_at p xs i inside earlier here = sym (position_or_len_is p xs i 0 (omega arith) earlier (λ _. here))

pub none_at : (p : ℕ → Bool) (xs : List ℕ) (i : ℕ) → length xs ≤ i → ((k : ℕ) → k < i → p (get_or xs k 0) ≡ false) → length xs ≡ position_or_len p xs
none_at p xs i all earlier = sym (position_or_len_is p xs (length xs) 0 (omega arith) (λ k h. earlier k (omega arith)) (λ h. absurd (omega arith)))
