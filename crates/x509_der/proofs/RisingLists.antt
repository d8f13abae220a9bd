-- Places in a list whose members rise.
use Rattle.std.proofs.Common.{◌≡◌, Bool, ℕ, ◌≤◌, ◌<◌, ◌-◌, ◌+◌, List, [], ◌∷◌, length, refl, sym, ap, ◌∙◌, subst, arith, true, false, slice_index_or, inl, inr}
use Rattle.std.specs.Prelude.{Contains, Err}
use Rattle.std.specs.List.{insert, IsDistinct}
use Rattle.std.specs.List.Sorted.{IsStrictlySortedBy, IsSortedBy, IsPartitionPoint, IsBinarySearchResult, IsPermutation}
use Rattle.std.specs.Ordering.{is_lt, ordering_reverse, nat_cmp, eq_by_cmp, is_eq}
use Rattle.std.specs.Cmp.{IsTotalOrder}
use Rattle.std.specs.declared.cmp.Ordering.{Ordering}
use Rattle.std.specs.declared.cmp.Ordering.TheVariants.{Less, Equal, Greater}
use Rattle.std.proofs.lemmas.Bool.{cases_Bool}
use Rattle.std.proofs.lemmas.Cmp.{tied_itself, ranked, by_ranked, eq_by_cmp_equiv}
use Rattle.std.proofs.lemmas.List.Sorted.{searchable_from_sorted, IsPermutation-sym}
use Rattle.std.proofs.lemmas.List.Edits.{length-insert, get_or-insert_below, get_or-insert_at, get_or-insert_above}
use Rattle.std.proofs.lemmas.Map.Keys.{Less-from_sorted, sorted_from_all_adjacent, apart_from_distinct, IsDistinct-from_apart, IsDistinct-IsPermutation, IsDistinct-from_sorted}
use Rattle.std.proofs.lemmas.List.{get_or_default}
use Rattle.x509_der.specs.Set.{AreDistinct}
use Rattle.x509_der.specs.SetLaws.{is_less}

-- what a test of an answer says of the order that was answered
pub answered : (answer order : Ordering) (tested is : Bool) → answer ≡ order → tested ≡ is_lt answer → tested ≡ is → is_lt order ≡ is
answered answer order tested is e f g = ap is_lt (sym e) ∙ sym f ∙ g

module _ {X : Type 0} {R : X → X → Ordering} (o : IsTotalOrder R) where
  pub turned : (x y : X) → R x y ≡ Greater → R y x ≡ Less
  turned x y e = o.antisymm y x ∙ ap ordering_reverse e

  -- ---- where a search ends

  loose : (xs : List X) → IsStrictlySortedBy R xs → IsSortedBy (λ a b. is_lt (R a b)) xs
  loose xs s k d low high = ap is_lt (o.antisymm (slice_index_or xs (k + 1) d) (slice_index_or xs k d) ∙ ap ordering_reverse (Less-from_sorted R xs k (k + 1) d s (omega arith) high))

  -- what a search that finds nothing says
  pub searched : (xs : List X) (x : X) (i : ℕ) → IsStrictlySortedBy R xs → IsBinarySearchResult (λ y. R y x) xs (Err i) → IsPartitionPoint (λ y. R y x ≡ Less) (λ y. R y x ≡ Greater) xs i
  searched xs x i s h = h (searchable_from_sorted o (λ y. y) xs x (loose xs s))

  -- ---- a member in its place

  after : (xs : List X) (x : X) (i k : ℕ) → i < k → i ≤ length xs → slice_index_or (insert xs i x) k x ≡ slice_index_or xs (k - 1) x
  after xs x i k a le =
      let m : (k - 1) + 1 ≡ k = omega arith in
      subst (λ n. slice_index_or (insert xs i x) n x ≡ slice_index_or xs (k - 1) x) m (get_or-insert_above xs i x x (k - 1) (omega arith) le)

  pub put_sorted : (xs : List X) (x : X) (i : ℕ) → i ≤ length xs → IsStrictlySortedBy R xs → IsPartitionPoint (λ y. R y x ≡ Less) (λ y. R y x ≡ Greater) xs i → IsStrictlySortedBy R (insert xs i x)
  put_sorted xs x i le s p = sorted_from_all_adjacent o (insert xs i x) x (λ k h.
      let len = length-insert xs i x le in
      by_ranked (k + 1 < i) (k + 1 ≡ i) (i < k + 1) (nat_cmp (k + 1) i) (ranked (k + 1) i _ refl)
      (λ _ a. rw (get_or-insert_below xs i x x k (omega arith) le, get_or-insert_below xs i x x (k + 1) a le) (Less-from_sorted R xs k (k + 1) x s (omega arith) (omega arith)))
      (λ _ e. rw (get_or-insert_below xs i x x k (omega arith) le, e, get_or-insert_at xs i x x le) (p.0 k x (omega arith) (omega arith)))
      (λ _ g. by_ranked (k < i) (k ≡ i) (i < k) (nat_cmp k i) (ranked k i _ refl)
      (λ _ a. absurd (omega arith))
      (λ _ e. rw (get_or-insert_above xs i x x k (omega arith) le, e, get_or-insert_at xs i x x le) (turned _ _ (p.1 i x (omega arith) (omega arith))))
      (λ _ a. rw (get_or-insert_above xs i x x k (omega arith) le, after xs x i k a le) (let m : (k - 1) + 1 ≡ k = omega arith in subst (λ n. R (slice_index_or xs (k - 1) x) (slice_index_or xs n x) ≡ Less) m (Less-from_sorted R xs (k - 1) ((k - 1) + 1) x s (omega arith) (omega arith))))))

  -- a member whose place is between others is not there
  pub absent : (xs : List X) (x : X) (i : ℕ) → IsPartitionPoint (λ y. R y x ≡ Less) (λ y. R y x ≡ Greater) xs i → ¬ Contains xs x
  absent xs x i p c =
      let same : R (slice_index_or xs c.0 x) x ≡ Equal = rw c.2 (tied_itself o x) in
      by_ranked (c.0 < i) (c.0 ≡ i) (i < c.0) (nat_cmp c.0 i) (ranked c.0 i _ refl)
      (λ _ a. let e = p.0 c.0 x (omega arith) a in cc)
      (λ _ a. let e = p.1 c.0 x (omega arith) c.1 in cc)
      (λ _ a. let e = p.1 c.0 x (omega arith) c.1 in cc)

  -- ---- after a sort

  strict : (x y : X) → is_lt (R y x) ≡ false → eq_by_cmp R x y ≡ false → R x y ≡ Less
  strict x y a b = go (R x y) (R y x) (o.antisymm x y) a b
    where
      go : (r q : Ordering) → r ≡ ordering_reverse q → is_lt q ≡ false → is_eq r ≡ false → r ≡ Less
      go Less q e a b = refl
      go Equal q e a b = absurd cc
      go Greater Less e a b = absurd cc
      go Greater Equal e a b = absurd cc
      go Greater Greater e a b = absurd cc

  distinct_rises : (xs : List X) → IsSortedBy (λ a b. is_lt (R a b)) xs → IsDistinct (eq_by_cmp R) xs → IsStrictlySortedBy R xs
  unfolding IsStrictlySortedBy
  distinct_rises [] s d = tt
  distinct_rises (x ∷ xs) s d = sorted_from_all_adjacent o (x ∷ xs) x (λ k h. strict _ _ (s k x (omega arith) h) (apart_from_distinct (eq_by_cmp R) (x ∷ xs) k (k + 1) x d (omega arith) h))

  flips : (x y : X) → eq_by_cmp R x y ≡ eq_by_cmp R y x
  flips x y = (eq_by_cmp_equiv o).symm x y

  apart : (xs : List X) → IsDistinct (eq_by_cmp R) xs → AreDistinct xs
  apart xs d i j other below within same =
      let differ = apart_from_distinct (eq_by_cmp R) xs i j other d below within in
      let tied : R (slice_index_or xs i other) (slice_index_or xs j other) ≡ Equal = rw same (tied_itself o (slice_index_or xs j other)) in
      let equal : eq_by_cmp R (slice_index_or xs i other) (slice_index_or xs j other) ≡ true = rw tied refl in
      cc

  -- members that were sorted, and rise, were distinct
  pub distinct_from_rising : (xs ys : List X) → IsPermutation xs ys → IsStrictlySortedBy R ys → AreDistinct xs
  distinct_from_rising xs ys p s = apart xs (IsDistinct-IsPermutation (eq_by_cmp R) flips ys xs (IsPermutation-sym xs ys p) (IsDistinct-from_sorted R ys s))

  is_equal : (r : Ordering) → is_eq r ≡ true → r ≡ Equal
  is_equal Less e = absurd cc
  is_equal Equal e = refl
  is_equal Greater e = absurd cc

  differ : ((x y : X) → R x y ≡ Equal → x ≡ y) → (x y : X) → (x ≡ y → ⊥) → eq_by_cmp R x y ≡ false
  differ exact x y n = elim (cases_Bool (eq_by_cmp R x y)) [ inl t ↦ absurd (n (exact x y (is_equal (R x y) t))) | inr f ↦ f ]

  -- and distinct members rise after a sort
  pub rising_from_distinct : ((x y : X) → R x y ≡ Equal → x ≡ y) → (xs ys : List X) → IsPermutation xs ys → IsSortedBy (λ a b. is_lt (R a b)) ys → AreDistinct xs → IsStrictlySortedBy R ys
  rising_from_distinct exact xs ys p s d =
      distinct_rises ys s (IsDistinct-IsPermutation (eq_by_cmp R) flips xs ys p (IsDistinct-from_apart (eq_by_cmp R) xs (λ i j other below within. differ exact (slice_index_or xs i other) (slice_index_or xs j other) (d i j other below within))))

  -- ---- a walk over neighbours

  -- none were passed, or each that was passed is below the next
  pub rising_from_next : (xs : List X) (i : ℕ) → length xs ≤ i → ((k : ℕ) (d : X) → k + 1 < i → R (slice_index_or xs k d) (slice_index_or xs (k + 1) d) ≡ Less) → IsStrictlySortedBy R xs
  unfolding IsStrictlySortedBy
  rising_from_next [] i le h = tt
  rising_from_next (x ∷ xs) i le h = sorted_from_all_adjacent o (x ∷ xs) x (λ k low. h k x (omega arith))

  -- one more that is below the next
  pub rises_more : (xs : List X) (i : ℕ) (a b : X) → 1 ≤ i → i < length xs → a ≡ slice_index_or xs (i - 1) a → b ≡ slice_index_or xs i b → is_lt (R a b) ≡ true → ((k : ℕ) (d : X) → k + 1 < i → R (slice_index_or xs k d) (slice_index_or xs (k + 1) d) ≡ Less) → (k : ℕ) (d : X) → k + 1 < i + 1 → R (slice_index_or xs k d) (slice_index_or xs (k + 1) d) ≡ Less
  rises_more xs i a b low high p q e before k d h = by_ranked (k + 1 < i) (k + 1 ≡ i) (i < k + 1) (nat_cmp (k + 1) i) (ranked (k + 1) i _ refl)
      (λ _ lt. before k d lt)
      (λ _ eq.
      let at : k ≡ i - 1 = omega arith in
      let one : slice_index_or xs k d ≡ a = rw at (get_or_default xs (i - 1) d a (omega arith) ∙ sym p) in
      let two : slice_index_or xs (k + 1) d ≡ b = rw eq (get_or_default xs i d b high ∙ sym q) in
      rw (one, two) (is_less (R a b) e))
      (λ _ gt. absurd (omega arith))

  -- one that is not below the next
  pub falls : (xs : List X) (i : ℕ) (a b : X) → 1 ≤ i → i < length xs → a ≡ slice_index_or xs (i - 1) a → b ≡ slice_index_or xs i b → is_lt (R a b) ≡ false → ¬ IsStrictlySortedBy R xs
  falls xs i a b low high p q e s =
      let less : R (slice_index_or xs (i - 1) a) (slice_index_or xs i a) ≡ Less = Less-from_sorted R xs (i - 1) i a s (omega arith) high in
      let r = get_or_default xs i a b high in
      let same : R a b ≡ Less = ap (λ x. R x b) p ∙ ap (R (slice_index_or xs (i - 1) a)) (q ∙ sym r) ∙ less in
      cc
