-- Sets of one value.
use Rattle.std.proofs.Common.{◌≡◌, List, [], ◌∷◌, length, arith, ap, refl}
use Rattle.std.proofs.lemmas.List.Sorted.{IsPermutation-keeps}
use Rattle.std.specs.List.Sorted.{IsPermutation}

-- one value in another order is that value
pub one_value : {X : Type 0} (x : X) (ys : List X) → IsPermutation (x ∷ []) ys → ys ≡ x ∷ []
one_value {X} x ys moved =
    IsPermutation-keeps (x ∷ []) (λ (l : List X). l ≡ x ∷ []) refl
    (λ l i j low high same.
    let one : length l ≡ 1 = ap length same in
    let first : i ≡ 0 = omega (arith, one, low) in
    let second : j ≡ 0 = omega (arith, one, high) in
    rw (same, first, second) refl)
    ys moved
