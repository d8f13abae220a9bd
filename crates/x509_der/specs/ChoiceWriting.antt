-- What is written of a choice: what is written of the value in its case, in that case.
use Rattle.std.specs.Prelude.{◌≡◌, ℕ, ◌⊎◌, None, refl}
use Rattle.std.proofs.Common.{inl, inr}
use Rattle.x509_der.specs.Writing.{Written, Writing, respelling, writes, IsStable}
use Rattle.x509_der.specs.Choice.{Case, pick, by_case, either_good}

abbrev pub written_either : {X Y E : Type 0} → (X ⊎ Y → E) → (X → Written X) → (Y → Written Y) → X ⊎ Y → Written E
written_either from left right (inl x) = record { value = from (inl (left x).value); refusal = (left x).refusal }
written_either from left right (inr y) = record { value = from (inr (right y).value); refusal = (right y).refusal }

abbrev pub in_either : {X Y E : Type 0} → (E → X ⊎ Y) → (X ⊎ Y → E) → Writing X → Writing Y → Writing E
in_either to from left right = respelling (λ v. written_either from (writes left) (writes right) (to v))

module _ {X Y E : Type 0} (to : E → X ⊎ Y) (from : X ⊎ Y → E) (left : Writing X) (right : Writing Y) (there : (w : X ⊎ Y) → to (from w) ≡ w) where
  abbrev written : X ⊎ Y → Written E
  written w = written_either from (writes left) (writes right) w

  tag_of_case : (f : X → ℕ) (g : Y → ℕ) → ((x : X) → f (writes left x).value ≡ f x) → ((y : Y) → g (writes right y).value ≡ g y) → (w : X ⊎ Y) → by_case to f g (written w).value ≡ pick f g w
  unfolding by_case
  tag_of_case f g same_left same_right (inl x) = rw (there (inl (writes left x).value)) (same_left x)
  tag_of_case f g same_left same_right (inr y) = rw (there (inr (writes right y).value)) (same_right y)

  -- the identifier octet stays, where it stays in each case
  pub either_same_tag : (f : X → ℕ) (g : Y → ℕ) → ((x : X) → f (writes left x).value ≡ f x) → ((y : Y) → g (writes right y).value ≡ g y) → (v : E) → by_case to f g (writes (in_either to from left right) v).value ≡ by_case to f g v
  unfolding by_case
  either_same_tag f g same_left same_right v = tag_of_case f g same_left same_right (to v)

  kept_in_case : (p : X → Type 0) (q : Y → Type 0) → IsStable p left → IsStable q right → (w : X ⊎ Y) → Case p q w → (written w).refusal ≡ None → either_good to p q (written w).value
  unfolding either_good
  kept_in_case p q stable_left stable_right (inl x) good free = rw (there (inl (writes left x).value)) (stable_left.kept x good free)
  kept_in_case p q stable_left stable_right (inr y) good free = rw (there (inr (writes right y).value)) (stable_right.kept y good free)

  again_in_case : (p : X → Type 0) (q : Y → Type 0) → IsStable p left → IsStable q right → (w : X ⊎ Y) → Case p q w → (written w).refusal ≡ None → written (to (written w).value) ≡ record { value = (written w).value; refusal = None }
  again_in_case p q stable_left stable_right (inl x) good free = rw (there (inl (writes left x).value), stable_left.again x good free) refl
  again_in_case p q stable_left stable_right (inr y) good free = rw (there (inr (writes right y).value), stable_right.again y good free) refl

  -- what is written once more is as it was, where it is so in each case
  pub either_stable : (p : X → Type 0) (q : Y → Type 0) → IsStable p left → IsStable q right → IsStable (either_good to p q) (in_either to from left right)
  unfolding either_good
  either_stable p q stable_left stable_right = record {
    kept = λ v good free. kept_in_case p q stable_left stable_right (to v) good free;
    again = λ v good free. again_in_case p q stable_left stable_right (to v) good free;
  }
