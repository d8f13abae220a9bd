-- Lists of which one is at its end.
use Rattle.std.proofs.Common.{◌≡◌, ℕ, ◌≤◌, ◌-◌, List, [], ◌∷◌, length, drop, sym, refl, ◌∙◌, arith, length-drop, ◌⊎◌, ⊎_elim, inl, inr}
use Rattle.std.proofs.lemmas.Bool.Decides.{nat_tests}
use Rattle.std.specs.Ordering.{nat_cmp}
use Rattle.std.specs.declared.cmp.Ordering.{Ordering}
use Rattle.std.specs.Cmp.Lexicographic.{slice_cmp}
use Rattle.x509_der.specs.OrderLaws.{less_from, greater_from}

-- they compare as their lengths
ended : {X : Type 0} (R : X → X → Ordering) (xs ys : List X) → (length xs ≤ 0) ⊎ (length ys ≤ 0) → slice_cmp R xs ys ≡ nat_cmp (length xs) (length ys)
ended R [] [] e = refl
ended R [] (y ∷ ys) e = sym (less_from 0 (length (y ∷ ys)) (omega arith))
ended R (x ∷ xs) [] e = sym (greater_from (length (x ∷ xs)) 0 (omega arith))
ended R (x ∷ xs) (y ∷ ys) e = absurd (⊎_elim (λ h. let k : length (x ∷ xs) ≤ 0 = h in omega arith) (λ h. let k : length (y ∷ ys) ≤ 0 = h in omega arith) e)

both_less : (n m i : ℕ) → i ≤ n → i ≤ m → nat_cmp (n - i) (m - i) ≡ nat_cmp n m
both_less n m i p q = grind (arith, nat_tests)

-- after i members of both, of which one has no more
pub ended_after : {X : Type 0} (R : X → X → Ordering) (a b : List X) (i : ℕ) → i ≤ length a → i ≤ length b → (length a ≤ i) ⊎ (length b ≤ i) → slice_cmp R (drop i a) (drop i b) ≡ nat_cmp (length a) (length b)
ended_after R a b i p q e =
    ended R (drop i a) (drop i b) (⊎_elim (λ h. inl (let k : length a ≤ i = h in omega (arith, length-drop i a))) (λ h. inr (let k : length b ≤ i = h in omega (arith, length-drop i b))) e)
    ∙ rw (length-drop i a, length-drop i b) (both_less (length a) (length b) i p q)
