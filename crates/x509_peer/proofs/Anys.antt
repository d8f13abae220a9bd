-- Some element of a list.
use Rattle.std.proofs.Common.{◌≡◌, ℕ, zero, suc, ◌⊎◌, List, [], ◌∷◌, Any, Bool, true, false, refl, sym, subst, inl, inr, arith}
use Rattle.std.specs.Prelude.{◌↔◌, IsTrue}

module _ {X : Type 0} (P : X → Type 0) where
  pub any_none : Any P [] → ⊥
  any_none (k, y, inside, at, holds) = absurd (omega (arith, inside))

  pub any_here : (x : X) (xs : List X) → P x → Any P (x ∷ xs)
  any_here x xs h = (0, x, omega arith, refl, h)

  pub any_behind : (x : X) (xs : List X) → Any P xs → Any P (x ∷ xs)
  any_behind x xs (k, y, inside, at, holds) = (suc k, y, omega (arith, inside), at, holds)

  pub any_parts : (x : X) (xs : List X) → Any P (x ∷ xs) → P x ⊎ Any P xs
  any_parts x xs (zero, y, inside, at, holds) = inl (subst P (sym at) holds)
  any_parts x xs (suc k, y, inside, at, holds) = inr (k, y, omega (arith, inside), at, holds)

  -- where the first element is none, one is behind it
  pub any_further : (x : X) (xs : List X) (all : Type 0) → ¬ (P x) → (Any P (x ∷ xs) ↔ all) → (Any P xs ↔ all)
  any_further x xs all other same = (
    λ h. same.0 (any_behind x xs h),
    λ h. elim (any_parts x xs (same.1 h)) [ inl p ↦ absurd (other p) | inr q ↦ q ],
  )
