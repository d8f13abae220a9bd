-- Numbers without octets.
use Rattle.std.proofs.Common.{◌≡◌, ◌∙◌, ◌⊎◌, ◌||◌, ℕ, zero, suc, Bool, true, false, List, [], ◌∷◌, length, Any, map, nat_eq, refl, ap, inl, inr, arith}
use Rattle.std.specs.Borrow.{Bor}
use Rattle.std.specs.List.{list_any}
use Rattle.x509_c_calls.specs.DescribedNumbers.{RefusesNumbers}
use Rattle.x509_c_calls.specs.Pieces.{AreCut}
use Rattle.x509_der.specs.declared.error.ErrorKind.{ErrorKind}
use Rattle.x509_der.specs.declared.error.ErrorKind.TheVariants.{Memory, Value}

or_one : (a b : Bool) → a ≡ true → (a || b) ≡ true
or_one a b is = ap (λ one. one || b) is

or_other : (a b : Bool) → b ≡ true → (a || b) ≡ true
or_other true b is = refl
or_other false b is = is

-- where a piece is empty a length is 0
pub zero_stands : (pieces : List (List ℕ)) → Any (λ piece. piece ≡ []) pieces → list_any (λ len. nat_eq len 0) (map length pieces) ≡ true
zero_stands [] (k, x, less, is, empty) = absurd (omega (arith, less))
zero_stands (piece ∷ pieces) (zero, x, less, is, empty) =
    or_one (nat_eq (length piece) 0) (list_any (λ len. nat_eq len 0) (map length pieces)) (ap (λ (p : List ℕ). nat_eq (length p) 0) (is ∙ empty))
zero_stands (piece ∷ pieces) (suc k, x, less, is, empty) =
    or_other (nat_eq (length piece) 0) (list_any (λ len. nat_eq len 0) (map length pieces)) (zero_stands pieces (k, x, omega (arith, less), is, empty))

-- so they are refused as numbers
pub refuses_empty : (bytes lens : List ℕ) (lent pieces : List (Bor (List ℕ))) (e : ErrorKind) → lent ≡ pieces → AreCut bytes lens (map (λ piece. piece.now) pieces)
    → (e ≡ Memory) ⊎ ((e ≡ Value) × Any (λ piece. piece ≡ []) (map (λ piece. piece.now) lent)) → (e ≡ Memory) ⊎ RefusesNumbers bytes lens e
refuses_empty bytes lens lent pieces e same cut (inl memory) = inl memory
refuses_empty bytes lens lent pieces e same cut (inr (value, empty)) =
    let stands = rw same at empty in
    let is : list_any (λ len. nat_eq len 0) lens ≡ true = rw cut.0 at (zero_stands (map (λ piece. piece.now) pieces) stands) in
    inr (inl (value, is))
