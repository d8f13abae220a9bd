-- Looking up by an index.
use Rattle.std.proofs.Common.{◌≡◌, ◌∙◌, inl, inr, ℕ, ◌+◌, ◌<◌, ◌≤◌, Bool, true, false, ◌&&◌, List, length, get_or, bytes_eq, nat_lt, nat_eq, Option, Some, None, refl, sym, ap, subst, arith}
use Rattle.std.proofs.lemmas.Bool.{cases_lt, true≢false}
use Rattle.std.proofs.lemmas.Bool.Decides.{nat_tests}
use Rattle.std.proofs.lemmas.Cmp.{nat_list_cmp_total, same_from_slice_cmp}
use Rattle.std.proofs.lemmas.List.{get_or_default}
use Rattle.std.proofs.lemmas.List.Folds.{list_any_at, list_any_none}
use Rattle.std.proofs.lemmas.List.Sorted.{ranks_by, searchable_from_sorted, sorted_far}
use Rattle.std.proofs.lemmas.Slice.Eq.{bytes_eq-Decides}
use Rattle.std.specs.Cmp.Lexicographic.{slice_cmp}
use Rattle.std.specs.List.{list_any}
use Rattle.std.specs.List.Sorted.{IsNonDecreasingBy, IsPartitionPoint, IsPartitionedBy, IsSortedByKey}
use Rattle.std.specs.Ordering.{is_eq, is_lt, nat_cmp, ordering_index, ordering_then}
use Rattle.std.specs.declared.cmp.Ordering.{Ordering}
use Rattle.std.specs.declared.cmp.Ordering.TheVariants.{Less, Equal, Greater}
use Rattle.x509_crl_index.proofs.Order.{key_total}
use Rattle.x509_crl_index.specs.Places.{FindsPlace, HaveSame, IsFirstPlace, has_number, is_before, key_at, key_cmp, number_at, places_in}

-- ---- answers of a comparison

lt_down : (a b : Ordering) → ordering_index a ≤ ordering_index b → is_lt b ≡ true → is_lt a ≡ true
lt_down Less b le is = refl
lt_down Equal Less le is = absurd (omega (arith, le))
lt_down Equal Equal le is = is
lt_down Equal Greater le is = is
lt_down Greater Less le is = absurd (omega (arith, le))
lt_down Greater Equal le is = is
lt_down Greater Greater le is = is

first_not_lt : (a b : Ordering) → is_lt (ordering_then a b) ≡ false → is_lt a ≡ false
first_not_lt Less b h = h
first_not_lt Equal b h = refl
first_not_lt Greater b h = refl

second_not_lt : (a b : Ordering) → is_eq a ≡ true → is_lt (ordering_then a b) ≡ false → is_lt b ≡ false
second_not_lt Less b e h = absurd (true≢false (sym e))
second_not_lt Equal b e h = h
second_not_lt Greater b e h = absurd (true≢false (sym e))

lt_not_eq : (a : Ordering) → is_lt a ≡ true → is_eq a ≡ false
lt_not_eq Less is = refl
lt_not_eq Equal is = absurd (true≢false (sym is))
lt_not_eq Greater is = refl

-- above what is neither less nor equal nothing is equal
above_not_eq : (a b : Ordering) → is_lt a ≡ false → is_eq a ≡ false → ordering_index a ≤ ordering_index b → is_eq b ≡ false
above_not_eq Less b l e le = absurd (true≢false l)
above_not_eq Equal b l e le = absurd (true≢false e)
above_not_eq Greater Less l e le = refl
above_not_eq Greater Equal l e le = absurd (omega (arith, le))
above_not_eq Greater Greater l e le = refl

not_below : (x y : ℕ) → is_lt (nat_cmp x y) ≡ false → nat_lt x y ≡ false
not_below x y h = grind (arith, nat_tests)

same_numbers : (xs ys : List ℕ) → is_eq (slice_cmp nat_cmp xs ys) ≡ bytes_eq xs ys
same_numbers xs ys = same_from_slice_cmp nat_cmp is_eq bytes_eq refl (λ _ _. refl) (λ _ _. refl) (λ x y us vs o h. grind (arith, nat_tests)) xs ys (slice_cmp nat_cmp xs ys) refl

and_false : (a b : Bool) → (a ≡ true → b ≡ false) → a && b ≡ false
and_false true b h = h refl
and_false false b h = refl

-- ---- where places are in the order of an index

module _ (octets number places : List ℕ) (up : IsSortedByKey (key_at octets) key_cmp places) where
  abbrev pub rank : ℕ → Ordering
  rank place = slice_cmp nat_cmp (number_at octets place) number

  abbrev pub is_below : ℕ → Bool
  is_below place = is_lt (rank place)

  by_numbers : IsSortedByKey (number_at octets) (slice_cmp nat_cmp) places
  by_numbers k d low high = first_not_lt (slice_cmp nat_cmp (number_at octets (get_or places (k + 1) d)) (number_at octets (get_or places k d))) _ (up k d low high)

  rises : IsNonDecreasingBy (λ place. ordering_index (rank place)) places
  rises = searchable_from_sorted nat_list_cmp_total (number_at octets) places number by_numbers

  pub parted : IsPartitionedBy is_below places
  parted i j d le less is = lt_down (rank (get_or places i d)) (rank (get_or places j d)) (rises i j d le less) is

  module _ (low : ℕ) (point : IsPartitionPoint (λ place. is_below place ≡ true) (λ place. is_below place ≡ false) places low) where
    early : (k d : ℕ) → k < low → has_number octets number (get_or places k d) ≡ false
    early k d less = sym (same_numbers (number_at octets (get_or places k d)) number) ∙ lt_not_eq (rank (get_or places k d)) (point.0 k d (omega arith) less)

    pub none_has : ((d : ℕ) → low < length places → has_number octets number (get_or places low d) ≡ false) → list_any (has_number octets number) places ≡ false
    none_has other = list_any_none (has_number octets number) places (λ k d less. elim (cases_lt k low) [
      | inl before ↦ early k d before
      | inr behind ↦
          let here : low < length places = omega (arith, less, behind) in
          sym (same_numbers (number_at octets (get_or places k d)) number)
          ∙ above_not_eq (rank (get_or places low d)) (rank (get_or places k d)) (point.1 low d (omega arith) here)
          (same_numbers (number_at octets (get_or places low d)) number ∙ other d here) (rises low k d behind less)
    ])

    not_earlier : (k d : ℕ) → low ≤ k → k < length places → has_number octets number (get_or places low d) ≡ true → has_number octets number (get_or places k d) ≡ true → nat_lt (get_or places k d) (get_or places low d) ≡ false
    not_earlier k d behind less has is =
        let far = sorted_far (λ a b. is_lt (key_cmp (key_at octets a) (key_at octets b))) (ranks_by key_total (key_at octets)) places up low k d behind less in
        let a = number_at octets (get_or places k d) in
        let b = number_at octets (get_or places low d) in
        let same : a ≡ b = (bytes_eq-Decides a number).0 is ∙ sym ((bytes_eq-Decides b number).0 has) in
        let alike : is_eq (slice_cmp nat_cmp a b) ≡ true = same_numbers a b ∙ (bytes_eq-Decides a b).1 same in
        not_below (get_or places k d) (get_or places low d) (second_not_lt (slice_cmp nat_cmp a b) (nat_cmp (get_or places k d) (get_or places low d)) alike far)

    pub first_has : low < length places → (d : ℕ) → has_number octets number (get_or places low d) ≡ true → IsFirstPlace octets number places (get_or places low d)
    first_has here d has = record {
      there = list_any_at (nat_eq (get_or places low d)) places low d here (grind (arith, nat_tests));
      has = has;
      first = list_any_none (is_before octets number (get_or places low d)) places (λ k e less. subst (λ place. is_before octets number place (get_or places k e) ≡ false) (get_or_default places low e d here)
          (and_false (has_number octets number (get_or places k e)) (nat_lt (get_or places k e) (get_or places low e))
          (λ is. elim (cases_lt k low) [
            | inl before ↦ absurd (true≢false (sym is ∙ early k e before))
            | inr behind ↦ not_earlier k e behind less (ap (has_number octets number) (get_or_default places low e d here) ∙ has) is
          ])));
    }

-- ---- what holds of the places of an index holds of those of the elements

module _ (octets number places : List ℕ) (same : HaveSame (places_in octets) places) where
  pub among_elements : (answer : Option ℕ) → FindsPlace octets number places answer → FindsPlace octets number (places_in octets) answer
  among_elements None h = same (has_number octets number) ∙ h
  among_elements (Some place) h = record { there = same (nat_eq place) ∙ h.there; has = h.has; first = same (is_before octets number place) ∙ h.first }
