-- Members each of which is good where it meets a premise.
use Rattle.std.specs.Prelude.{◌≡◌, ℕ, zero, suc, ◌-◌, ◌≤◌, ◌<◌, List, [], ◌∷◌, length, drop, get_or}
use Rattle.std.specs.List.{All}
use Rattle.std.proofs.Common.{arith, length-drop, subst, sym}
use Rattle.std.proofs.lemmas.List.{nil_from_length}
use Rattle.std.proofs.lemmas.List.Elements.{All-head, All-tail}
use Rattle.std.proofs.Math.Seq.{drop-cons}
use Rattle.x509_der.specs.List.{all_good}

module _ {X : Type 0} (p : X → Type 0) where
  -- none are left
  pub all_good-end : (xs : List X) → all_good p (drop (length xs) xs)
  unfolding all_good
  all_good-end xs = let nil : drop (length xs) xs ≡ [] = nil_from_length (drop (length xs) xs) (omega (arith, length-drop (length xs) xs)) in rw nil tt

  -- one more in front
  pub all_good-member : (xs : List X) (i : ℕ) (x : X) → 0 < i → i ≤ length xs → x ≡ get_or xs (i - 1) x → all_good p (drop i xs) → p x → all_good p (drop (i - 1) xs)
  unfolding all_good
  all_good-member xs i x some within is behind good =
      let lt : i - 1 < length xs = omega arith in
      let next : suc (i - 1) ≡ i = omega arith in
      let from_here : drop (i - 1) xs ≡ get_or xs (i - 1) x ∷ drop i xs = subst (λ n. drop (i - 1) xs ≡ get_or xs (i - 1) x ∷ drop n xs) next (drop-cons xs (i - 1) x lt) in
      let split : drop (i - 1) xs ≡ x ∷ drop i xs = subst (λ y. drop (i - 1) xs ≡ y ∷ drop i xs) (sym is) from_here in
      rw split (good, behind)

all_good-where : {X : Type 0} (premise good : X → Type 0) (xs : List X) → all_good (λ x. premise x → good x) xs → All premise xs → all_good good xs
unfolding all_good
all_good-where premise good [] each all = tt
all_good-where premise good (x ∷ xs) each all = (each.0 (All-head premise x xs all), all_good-where premise good xs each.1 (All-tail premise x xs all))

-- the members from the first on
pub all_good-whole : {X : Type 0} (premise good : X → Type 0) (xs : List X) (i : ℕ) → i ≤ 0 → all_good (λ x. premise x → good x) (drop i xs) → All premise xs → all_good good xs
all_good-whole premise good xs zero none each all = all_good-where premise good xs each all
all_good-whole premise good xs (suc i) none each all = absurd (omega arith)
