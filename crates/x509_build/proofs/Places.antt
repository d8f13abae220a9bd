-- A member that is put in its place among rising members.
use Rattle.std.proofs.Common.{◌≡◌, suc, List, [], ◌∷◌, refl, sym, arith}
use Rattle.std.proofs.lemmas.List.Sorted.{IsPermutation-refl, IsPermutation-sym, IsPermutation-trans, IsPermutation-cons, IsPermutation-middle}
use Rattle.std.specs.BTreeSet.{insert_key}
use Rattle.std.specs.Cmp.{IsTotalOrder}
use Rattle.std.specs.List.{AllByRecursion}
use Rattle.std.specs.List.Sorted.{IsStrictlySortedBy, IsPermutation}
use Rattle.std.specs.Ordering.{match_ordering}
use Rattle.std.specs.Prelude.{Contains}
use Rattle.std.specs.declared.cmp.Ordering.{Ordering}
use Rattle.std.specs.declared.cmp.Ordering.TheVariants.{Less, Equal, Greater}
use Rattle.x509_der.proofs.OneSet.{one_set}
use Rattle.x509_der.proofs.RisingLists.{turned}

module _ {X : Type 0} {R : X → X → Ordering} (o : IsTotalOrder R) (exact : (x y : X) → R x y ≡ Equal → x ≡ y) where
  below : (k x : X) (xs : List X) → R k x ≡ Less → AllByRecursion (λ y. R x y ≡ Less) xs → AllByRecursion (λ y. R k y ≡ Less) xs
  below k x [] e a = tt
  below k x (y ∷ ys) e a = (o.trans k x y e a.0, below k x ys e a.1)

  above : (x k : X) (xs : List X) → R x k ≡ Less → AllByRecursion (λ y. R x y ≡ Less) xs → AllByRecursion (λ y. R x y ≡ Less) (insert_key R xs k)
  above x k [] e a = (e, tt)
  above x k (y ∷ ys) e a = elim (R k y) as (λ r. AllByRecursion (λ z. R x z ≡ Less) (match_ordering r (k ∷ y ∷ ys) (y ∷ ys) (y ∷ insert_key R ys k))) [
    | Less ↦ (e, a)
    | Equal ↦ a
    | Greater ↦ (a.0, above x k ys e a.1)
  ]

  rises : (xs : List X) (k : X) → IsStrictlySortedBy R xs → IsStrictlySortedBy R (insert_key R xs k)
  unfolding IsStrictlySortedBy
  rises [] k s = (tt, tt)
  rises (x ∷ xs) k s = elim (R k x) as (λ r. R k x ≡ r → IsStrictlySortedBy R (match_ordering r (k ∷ x ∷ xs) (x ∷ xs) (x ∷ insert_key R xs k))) [
    | Less ↦ λ e. ((e, below k x xs e s.0), s)
    | Equal ↦ λ e. s
    | Greater ↦ λ e. (above x k xs (turned o k x e) s.0, rises xs k s.1)
  ] refl

  moved : (xs : List X) (k : X) → (¬ Contains xs k) → IsPermutation (k ∷ xs) (insert_key R xs k)
  moved [] k n = IsPermutation-refl (k ∷ [])
  moved (x ∷ xs) k n =
      let rest : ¬ Contains xs k = λ c. n (suc c.0, omega (arith, c.1), c.2) in
      elim (R k x) as (λ r. R k x ≡ r → IsPermutation (k ∷ x ∷ xs) (match_ordering r (k ∷ x ∷ xs) (x ∷ xs) (x ∷ insert_key R xs k))) [
        | Less ↦ λ e. IsPermutation-refl (k ∷ x ∷ xs)
        | Equal ↦ λ e. absurd (n (0, omega arith, sym (exact k x e)))
        | Greater ↦ λ e. IsPermutation-trans (k ∷ x ∷ xs) (x ∷ k ∷ xs) (x ∷ insert_key R xs k) (IsPermutation-sym (x ∷ k ∷ xs) (k ∷ x ∷ xs) (IsPermutation-middle (x ∷ []) k xs)) (IsPermutation-cons x (k ∷ xs) (insert_key R xs k) (moved xs k rest))
      ] refl

  -- a list that rises, and has one member more, has it in its place
  pub in_place : (xs ys : List X) (k : X) → IsStrictlySortedBy R xs → (¬ Contains xs k) → IsPermutation (k ∷ xs) ys → IsStrictlySortedBy R ys → ys ≡ insert_key R xs k
  in_place xs ys k s n p t =
      one_set o exact ys (insert_key R xs k) t (rises xs k s) (IsPermutation-trans ys (k ∷ xs) (insert_key R xs k) (IsPermutation-sym (k ∷ xs) ys p) (moved xs k n))
