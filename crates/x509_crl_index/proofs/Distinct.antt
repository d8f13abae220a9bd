-- Serial numbers that are distinct rise once they are put in order.
use Rattle.std.proofs.Common.{◌≡◌, ◌↔◌, ◌+◌, ◌<◌, ◌∙◌, ℕ, Bool, true, false, List, [], ◌∷◌, length, get_or, refl, sym, ap, arith}
use Rattle.std.specs.Borrow.{Bor}
use Rattle.std.specs.Prelude.{IsTrue}
use Rattle.std.specs.List.{IsAllAdjacentAnswer}
use Rattle.std.specs.List.Sorted.{IsPermutation, IsSorted, IsSortedBy, IsStrictlySortedBy}
use Rattle.std.specs.Ordering.{is_lt}
use Rattle.std.specs.declared.cmp.Ordering.TheVariants.{Less}
use Rattle.std.proofs.lemmas.Bool.{true≢false}
use Rattle.std.proofs.lemmas.Cmp.{nat_list_cmp_total}
use Rattle.std.proofs.lemmas.List.{get_or-map, length-map}
use Rattle.std.proofs.lemmas.List.Sorted.{IsPermutation-map}
use Rattle.std.proofs.lemmas.Map.Keys.{Less-from_sorted, sorted_from_all_adjacent}
use Rattle.std.proofs.lemmas.Map.Lookups.{exact_bytes}
use Rattle.x509_crl_index.specs.Split.{lent_octets}
use Rattle.x509_der.proofs.RisingLists.{distinct_from_rising, rising_from_distinct}
use Rattle.x509_der.specs.Order.{bytes_cmp}
use Rattle.x509_der.specs.Set.{AreDistinct}
use Rattle.x509_der.specs.SetLaws.{is_less}

-- ---- lists of octets that are put in order

sorted : (numbers ordered : List (List ℕ)) → IsPermutation numbers ordered → IsSortedBy (λ a b. is_lt (bytes_cmp a b)) ordered
    → (rising : Bool) → IsAllAdjacentAnswer (λ a b r. r ≡ is_lt (bytes_cmp a b)) ordered rising → IsTrue rising ↔ AreDistinct numbers
sorted numbers ordered moved rises true answer =
    let strictly : IsStrictlySortedBy bytes_cmp ordered = sorted_from_all_adjacent nat_list_cmp_total ordered [] (λ k less. is_less _ (sym (answer k [] less))) in
    ((λ yes. distinct_from_rising nat_list_cmp_total numbers ordered moved strictly), (λ apart. refl))
sorted numbers ordered moved rises false (k, less, answer) = (
  (λ no. absurd (true≢false (sym no))),
  (λ apart.
      let strictly : IsStrictlySortedBy bytes_cmp ordered = rising_from_distinct nat_list_cmp_total exact_bytes numbers ordered moved rises apart in
      let below : bytes_cmp (get_or ordered k []) (get_or ordered (k + 1) []) ≡ Less = Less-from_sorted bytes_cmp ordered k (k + 1) [] strictly (omega arith) less in
      absurd (true≢false (sym (ap is_lt below) ∙ sym (answer [])))),
)

-- ---- octets that are lent

abbrev pub Lent : Type 0
Lent = Bor (List ℕ)

module _ (slices : List Lent) (other : Lent) where
  at : (k : ℕ) (d : List ℕ) → k < length slices → get_or (lent_octets slices) k d ≡ (get_or slices k other).now
  at k d less = get_or-map (λ (slice : Lent). slice.now) slices k other d less

  rises : IsSorted (λ (a : Lent) (b : Lent). bytes_cmp a.now b.now) slices → IsSortedBy (λ a b. is_lt (bytes_cmp a b)) (lent_octets slices)
  rises up k d low high =
      let within : k + 1 < length slices = omega (arith, high, length-map slices (λ (slice : Lent). slice.now)) in
      let before : k < length slices = omega (arith, within) in
      rw (at (k + 1) d within, at k d before) (up k other low within)

  answered : (rising : Bool) → IsAllAdjacentAnswer (λ (a : Lent) (b : Lent) r. r ≡ is_lt (bytes_cmp a.now b.now)) slices rising
      → IsAllAdjacentAnswer (λ a b r. r ≡ is_lt (bytes_cmp a b)) (lent_octets slices) rising
  answered true answer = λ k d less.
      let within : k + 1 < length slices = omega (arith, less, length-map slices (λ (slice : Lent). slice.now)) in
      let before : k < length slices = omega (arith, within) in
      rw (at (k + 1) d within, at k d before) (answer k other within)
  answered false (k, less, answer) =
      let before : k < length slices = omega (arith, less) in
      (k, omega (arith, less, length-map slices (λ (slice : Lent). slice.now)), (λ d. rw (at (k + 1) d less, at k d before) (answer other)))

none_rises : IsSortedBy (λ a b. is_lt (bytes_cmp a b)) []
none_rises k d low high = absurd (omega (arith, high))

-- slices that were put in order, and whether each is below the next
pub by_order : (slices ordered : List Lent) (rising : Bool) → IsPermutation slices ordered → IsSorted (λ (a : Lent) (b : Lent). bytes_cmp a.now b.now) ordered
    → IsAllAdjacentAnswer (λ (a : Lent) (b : Lent) r. r ≡ is_lt (bytes_cmp a.now b.now)) ordered rising → IsTrue rising ↔ AreDistinct (lent_octets slices)
by_order slices ordered rising moved up answer = go ordered moved up answer
  where
    go : (ordered : List Lent) → IsPermutation slices ordered → IsSorted (λ (a : Lent) (b : Lent). bytes_cmp a.now b.now) ordered
        → IsAllAdjacentAnswer (λ (a : Lent) (b : Lent) r. r ≡ is_lt (bytes_cmp a.now b.now)) ordered rising → IsTrue rising ↔ AreDistinct (lent_octets slices)
    go [] moved up answer = sorted (lent_octets slices) [] (IsPermutation-map (λ (slice : Lent). slice.now) slices [] moved) none_rises rising (none_answered rising answer)
      where
        none_answered : (rising : Bool) → IsAllAdjacentAnswer (λ (a : Lent) (b : Lent) r. r ≡ is_lt (bytes_cmp a.now b.now)) [] rising → IsAllAdjacentAnswer (λ a b r. r ≡ is_lt (bytes_cmp a b)) [] rising
        none_answered true answer = λ k d less. absurd (omega (arith, less))
        none_answered false (k, less, answer) = absurd (omega (arith, less))
    go (x ∷ xs) moved up answer =
        sorted (lent_octets slices) (lent_octets (x ∷ xs)) (IsPermutation-map (λ (slice : Lent). slice.now) slices (x ∷ xs) moved) (rises (x ∷ xs) x up) rising (answered (x ∷ xs) x rising answer)
