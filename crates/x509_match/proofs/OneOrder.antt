-- Lists of the same members in ascending order are one.
use Rattle.std.proofs.Common.{◌≡◌, ℕ, zero, suc, ◌+◌, ◌<◌, false, cond, List, [], ◌∷◌, length, get_or, map, sum_by, refl, sym, ap, ◌∙◌, subst, arith, add-one, suc-le-suc, zero-le}
use Rattle.std.specs.Cmp.{IsTotalOrder}
use Rattle.std.specs.List.{AllByRecursion}
use Rattle.std.specs.List.Sorted.{IsPermutation, IsSortedByKey}
use Rattle.std.specs.Ordering.{eq_by_cmp, is_eq, is_lt, ordering_reverse}
use Rattle.std.specs.declared.cmp.Ordering.{Ordering}
use Rattle.std.specs.declared.cmp.Ordering.TheVariants.{Less, Equal, Greater}
use Rattle.std.proofs.lemmas.Cmp.{tied_itself}
use Rattle.std.proofs.lemmas.List.Sorted.{sum_by-IsPermutation, ranks_by, sorted_far}
use Rattle.std.proofs.lemmas.List.Sums.{sum_by-cons}

module _ {K : Type 0} {R : K → K → Ordering} (o : IsTotalOrder R) (exact : (x y : K) → R x y ≡ Equal → x ≡ y) where
  -- none of a list is below the one in front
  abbrev pub Rises : List K → Type 0
  Rises [] = Unit {0}
  Rises (x ∷ xs) = AllByRecursion (λ z. is_lt (R z x) ≡ false) xs × Rises xs

  -- how many tie with q
  abbrev pub tally : K → List K → ℕ
  tally q xs = sum_by (λ z. cond (eq_by_cmp R q z) 1 0) xs

  tally-cons : (q x : K) (xs : List K) → tally q (x ∷ xs) ≡ cond (eq_by_cmp R q x) 1 0 + tally q xs
  tally-cons q x xs = sum_by-cons (λ z. cond (eq_by_cmp R q z) 1 0) x xs

  tally-own : (x : K) (xs : List K) → tally x (x ∷ xs) ≡ 1 + tally x xs
  tally-own x xs = tally-cons x x xs ∙ ap (λ r. cond (is_eq r) 1 0 + tally x xs) (tied_itself o x)

  abbrev own_tally : K → K → ℕ
  own_tally q z = cond (eq_by_cmp R q z) 1 0

  tails : (q x y : K) (xs ys : List K) → x ≡ y → tally q (x ∷ xs) ≡ tally q (y ∷ ys) → tally q xs ≡ tally q ys
  tails q x y xs ys e h =
      let m = tally-cons q x xs in
      let n = tally-cons q y ys in
      let same : own_tally q x ≡ own_tally q y = ap (own_tally q) e in
      omega arith

  absent : (q : K) (xs : List K) → AllByRecursion (λ z. R q z ≡ Less) xs → tally q xs ≡ 0
  absent q [] a = refl
  absent q (x ∷ xs) a = tally-cons q x xs ∙ rw (a.0, absent q xs a.1) refl

  -- what is below the first is below all
  below_all : (x y : K) (ys : List K) → R x y ≡ Less → AllByRecursion (λ z. is_lt (R z y) ≡ false) ys → AllByRecursion (λ z. R x z ≡ Less) ys
  below_all x y [] e a = tt
  below_all x y (z ∷ zs) e a = (
    elim (R z y) as (λ r. R z y ≡ r → R x z ≡ Less) [
      | Less ↦ λ t. absurd (let k = rw t at a.0 in cc)
      | Equal ↦ λ t. subst (λ v. R x v ≡ Less) (sym (exact z y t)) e
      | Greater ↦ λ t. o.trans x y z e (o.antisymm y z ∙ ap ordering_reverse t)
    ] refl,
    below_all x y zs e a.1,
  )

  pub unique : (xs ys : List K) → Rises xs → Rises ys → ((q : K) → tally q xs ≡ tally q ys) → xs ≡ ys
  unique [] [] s t h = refl
  unique [] (y ∷ ys) s t h = absurd (let e = h y in let own = tally-own y ys in omega arith)
  unique (x ∷ xs) [] s t h = absurd (let e = h x in let own = tally-own x xs in omega arith)
  unique (x ∷ xs) (y ∷ ys) s t h = elim (R x y) as (λ r. R x y ≡ r → (x ∷ xs) ≡ (y ∷ ys)) [
    | Equal ↦ λ e.
        let f : x ≡ y = exact x y e in
        let rest = unique xs ys s.1 t.1 (λ q. tails q x y xs ys f (h q)) in
        cc
    | Less ↦ λ e. absurd (let k = h x in let own = tally-own x xs in let none = absent x (y ∷ ys) (e, below_all x y ys e t.0) in omega arith)
    | Greater ↦ λ e. absurd (let turn : R y x ≡ Less = o.antisymm y x ∙ ap ordering_reverse e in let k = h y in let own = tally-own y ys in let none = absent y (x ∷ xs) (turn, below_all y x xs turn s.0) in omega arith)
  ] refl

  module _ {X : Type 0} (f : X → K) where
    none_below : (x : X) (ys : List X) → ((k : ℕ) (d : X) → k < length ys → is_lt (R (f (get_or ys k d)) (f x)) ≡ false) → AllByRecursion (λ z. is_lt (R z (f x)) ≡ false) (map f ys)
    none_below x [] h = tt
    none_below x (y ∷ ys) h = (h zero x (suc-le-suc zero-le), none_below x ys (λ k d lt. h (suc k) d (suc-le-suc lt)))

    rises_from : (xs : List X) → IsSortedByKey f R xs → Rises (map f xs)
    rises_from [] s = tt
    rises_from (x ∷ xs) s = (
      none_below x xs (λ k d lt. sorted_far (λ a b. is_lt (R (f a) (f b))) (ranks_by o f) (x ∷ xs) s 0 (suc k) d zero-le (suc-le-suc lt)),
      rises_from xs (λ k d low lt. let e = s (suc k) d zero-le (omega (arith, lt)) in let g = rw add-one at e in rw add-one g),
    )

    -- sorted by their keys, they have the same keys
    pub one_order : (xs ys : List X) → IsSortedByKey f R xs → IsSortedByKey f R ys → IsPermutation (map f xs) (map f ys) → map f xs ≡ map f ys
    one_order xs ys s t p =
        unique (map f xs) (map f ys) (rises_from xs s) (rises_from ys t) (λ q. sym (sum_by-IsPermutation (λ z. cond (eq_by_cmp R q z) 1 0) (map f xs) (map f ys) p))
