-- Sets of policies as sorted lists.
use Rattle.std.proofs.Common.{◌≡◌, ◌∙◌, inl, inr, ℕ, zero, suc, ◌+◌, ◌<◌, ◌≤◌, ◌||◌, nat_lt, Bool, true, false, cond, List, [], ◌∷◌, length, get_or, Result, Ok, Err, refl, sym, ap, subst, arith}
use Rattle.std.proofs.Math.Path.{fun_ext}
use Rattle.std.specs.Borrow.{Bor}
use Rattle.std.specs.Cmp.Lexicographic.{slice_cmp, on_texts}
use Rattle.std.specs.List.{AllByRecursion, dedup, dedup_from, list_any, sum_by}
use Rattle.std.specs.List.Sorted.{IsPermutation, IsSorted, IsStrictlySortedBy, IsBinarySearchResult, IsSearchInRange}
use Rattle.std.specs.Ordering.{nat_cmp, is_lt, is_eq, eq_by_cmp, ordering_reverse}
use Rattle.std.specs.declared.cmp.Ordering.{Ordering}
use Rattle.std.specs.Result.{is_ok}
use Rattle.std.specs.Str.{bytes_eq}
use Rattle.std.specs.declared.cmp.Ordering.TheVariants.{Less, Equal, Greater}
use Rattle.std.proofs.lemmas.Bool.{cases_lt, ltb_from_iff}
use Rattle.std.proofs.lemmas.List.{length-map}
use Rattle.std.proofs.lemmas.List.Sums.{sum_by-cons}
use Rattle.std.proofs.lemmas.Cmp.{nat_list_cmp_total}
use Rattle.std.proofs.lemmas.List.Folds.{list_any_at, list_any_none}
use Rattle.std.proofs.lemmas.List.Kept.{IsStrictlySortedBy-dedup}
use Rattle.std.proofs.lemmas.List.Sorted.{IsPermutation-map, IsPermutation-sym, length_permutation, list_any-IsPermutation, searchable_from_sorted, sum_by-IsPermutation}
use Rattle.std.proofs.lemmas.Map.Text.{is_eq-slice_cmp}
use Rattle.std.proofs.lemmas.Slice.Eq.{bytes_eq-Decides}
use Rattle.x509_policy.specs.Values.{Policy, has, is_repeated}
use Rattle.x509_policy.specs.Views.{octets_of}
use Rattle.x509_policy.proofs.Octets.{has-first, has-none}
use Rattle.x509_policy.proofs.Members.{is_false, not_both, or_cases, or_left, or_right}

abbrev pub Lent : Type 0
Lent = Bor (List ℕ)

abbrev pub Order : Lent → Lent → Ordering
Order p q = slice_cmp nat_cmp p.now q.now

-- ---- each once

or_again : (a b c : Bool) → a ≡ b → (a || c) ≡ (a || (b || c))
or_again true b c e = refl
or_again false b c e = ap (λ x. x || c) e

module _ (E : Lent → Lent → Bool) (ties : (x y : Lent) → E x y ≡ eq_by_cmp Order x y) where
  same_octets : (x y : Lent) → E x y ≡ true → x.now ≡ y.now
  same_octets x y h = (bytes_eq-Decides x.now y.now).0 (sym (is_eq-slice_cmp x.now y.now) ∙ (sym (ties x y) ∙ h))

  once_step : (k x : Lent) (xs : List Lent) (p : Policy) (b : Bool) → E x k ≡ b
      → has (octets_of (dedup_from E k xs)) p ≡ (bytes_eq k.now p || has (octets_of xs) p)
      → has (octets_of (dedup_from E x xs)) p ≡ (bytes_eq x.now p || has (octets_of xs) p)
      → has (octets_of (cond b (dedup_from E k xs) (k ∷ dedup_from E x xs))) p ≡ (bytes_eq k.now p || (bytes_eq x.now p || has (octets_of xs) p))
  once_step k x xs p true e old new = old ∙ or_again (bytes_eq k.now p) (bytes_eq x.now p) (has (octets_of xs) p) (ap (λ q. bytes_eq q p) (sym (same_octets x k e)))
  once_step k x xs p false e old new = has-first k.now (octets_of (dedup_from E x xs)) p ∙ ap (λ b. bytes_eq k.now p || b) new

  once_from : (k : Lent) (xs : List Lent) (p : Policy) → has (octets_of (dedup_from E k xs)) p ≡ (bytes_eq k.now p || has (octets_of xs) p)
  once_from k [] p = has-first k.now [] p
  once_from k (x ∷ xs) p =
      once_step k x xs p (E x k) refl (once_from k xs p) (once_from x xs p) ∙ ap (λ b. bytes_eq k.now p || b) (sym (has-first x.now (octets_of xs) p))

  once : (xs : List Lent) (p : Policy) → has (octets_of (dedup E xs)) p ≡ has (octets_of xs) p
  once [] p = refl
  once (x ∷ xs) p = once_from x xs p ∙ sym (has-first x.now (octets_of xs) p)

  moved : (xs ys : List Lent) (p : Policy) → IsPermutation xs ys → has (octets_of ys) p ≡ has (octets_of xs) p
  unfolding has
  moved xs ys p h = sym (list_any-IsPermutation (λ q. bytes_eq q p) (octets_of xs) (octets_of ys) (IsPermutation-map (λ (q : Lent). q.now) xs ys h))

  pub sorted_set : (xs ys zs : List Lent) → IsPermutation xs ys → zs ≡ dedup E ys → has (octets_of zs) ≡ has (octets_of xs)
  sorted_set xs ys zs h e = fun_ext (λ p. ap (λ l. has (octets_of l) p) e ∙ (once ys p ∙ moved xs ys p h))

  pub strictly : (ys : List Lent) → IsSorted Order ys → IsStrictlySortedBy Order (dedup E ys)
  strictly ys h = IsStrictlySortedBy-dedup (on_texts (λ (x : Lent). x.now)) ties ys h

-- ---- in order

not_below : (o a : Ordering) → a ≡ Less → a ≡ ordering_reverse o → is_lt o ≡ false
not_below Less a less turned = cc
not_below Equal a less turned = refl
not_below Greater a less turned = refl

pub in_order : (xs : List Lent) → IsStrictlySortedBy Order xs → IsSorted Order xs
unfolding IsStrictlySortedBy
in_order [] s k d low high = absurd (omega arith)
in_order (x ∷ []) s k d low high = absurd (omega arith)
in_order (x ∷ (y ∷ xs)) (first, more) zero d low high = not_below (Order y x) (Order x y) first.0 ((on_texts (λ (z : Lent). z.now)).antisymm x y)
in_order (x ∷ (y ∷ xs)) (first, more) (suc k) d low high =
    let e : suc (k + 1) ≡ suc k + 1 = omega arith in
    let within : k + 1 < length (y ∷ xs) = omega arith in
    subst (λ i. is_lt (Order (get_or (x ∷ (y ∷ xs)) i d) (get_or (x ∷ (y ∷ xs)) (suc k) d)) ≡ false) e (in_order (y ∷ xs) more k d (omega arith) within)

-- ---- looking for one

module _ (set : List Lent) (up : IsSorted Order set) (p : Policy) where
  abbrev Test : Lent → Bool
  Test q = bytes_eq q.now p

  listed : has (octets_of set) p ≡ list_any Test set
  unfolding has
  listed = go set
    where
      go : (xs : List Lent) → list_any (λ q. bytes_eq q p) (octets_of xs) ≡ list_any (λ (q : Lent). bytes_eq q.now p) xs
      go [] = refl
      go (x ∷ xs) = ap (λ b. bytes_eq x.now p || b) (go xs)

  differs : (q : Lent) (o : Ordering) → is_eq o ≡ false → slice_cmp nat_cmp q.now p ≡ o → Test q ≡ false
  differs q o n e = sym (is_eq-slice_cmp q.now p) ∙ (ap is_eq e ∙ n)

  pub found : (r : Result ℕ ℕ) → IsSearchInRange r (length set) → IsBinarySearchResult (λ (q : Lent). slice_cmp nat_cmp q.now p) set r → (b : Bool) → b ≡ is_ok r → b ≡ has (octets_of set) p
  found (Ok i) within at b e = e ∙ sym (listed ∙ at_place set i within at)
    where
      at_place : (xs : List Lent) (i : ℕ) → i < length xs → ((d : Lent) → slice_cmp nat_cmp (get_or xs i d).now p ≡ Equal) → list_any (λ (q : Lent). bytes_eq q.now p) xs ≡ true
      at_place [] i within at = absurd (omega arith)
      at_place (x ∷ xs) i within at = list_any_at (λ (q : Lent). bytes_eq q.now p) (x ∷ xs) i x within (sym (is_eq-slice_cmp (get_or (x ∷ xs) i x).now p) ∙ ap is_eq (at x))
  found (Err i) within place b e =
      let (below, above) = place (searchable_from_sorted (nat_list_cmp_total) (λ (q : Lent). q.now) set p up) in
      e ∙ sym (listed ∙ list_any_none Test set (λ k d in_set. elim (cases_lt k i) [
        | inl left ↦ differs (get_or set k d) Less refl (below k d (omega arith) left)
        | inr right ↦ differs (get_or set k d) Greater refl (above k d right in_set)
      ]))

-- ---- a policy twice

times : Policy → List Policy → ℕ
times p [] = 0
times p (q ∷ ps) = cond (bytes_eq q p) 1 0 + times p ps

times_sum : (p : Policy) (ps : List Policy) → times p ps ≡ sum_by (λ q. cond (bytes_eq q p) 1 0) ps
unfolding times
times_sum p [] = refl
times_sum p (q ∷ ps) = ap (λ n. cond (bytes_eq q p) 1 0 + n) (times_sum p ps) ∙ sym (sum_by-cons (λ r. cond (bytes_eq r p) 1 0) q ps)

times_moved : (p : Policy) (ps qs : List Policy) → IsPermutation ps qs → times p qs ≡ times p ps
times_moved p ps qs h = times_sum p qs ∙ (sum_by-IsPermutation (λ q. cond (bytes_eq q p) 1 0) ps qs h ∙ sym (times_sum p ps))

has_times : (p : Policy) (ps : List Policy) → has ps p ≡ true → 1 ≤ times p ps
unfolding times
has_times p [] h = absurd (not_both (has [] p) h (has-none p))
has_times p (q ∷ ps) h = by (bytes_eq q p) (sym (has-first q ps p) ∙ h) (λ more. has_times p ps more)
  where
    by : (b : Bool) → (b || has ps p) ≡ true → (has ps p ≡ true → 1 ≤ times p ps) → 1 ≤ cond b 1 0 + times p ps
    by true t more = omega arith
    by false t more = let rest = more t in omega arith

times_has : (p : Policy) (ps : List Policy) → 1 ≤ times p ps → has ps p ≡ true
unfolding times
times_has p [] h = absurd (omega arith)
times_has p (q ∷ ps) h = has-first q ps p ∙ by (bytes_eq q p) h (λ more. times_has p ps more)
  where
    by : (b : Bool) → 1 ≤ cond b 1 0 + times p ps → (1 ≤ times p ps → has ps p ≡ true) → (b || has ps p) ≡ true
    by true t more = refl
    by false t more = more (omega arith)

repeated_times : (ps : List Policy) → is_repeated ps ≡ true → (p : Policy) × (2 ≤ times p ps)
unfolding times
repeated_times [] h = absurd (not_both false h refl)
repeated_times (q ∷ ps) h = elim (or_cases (has ps q) (is_repeated ps) h) [
  | inl here ↦
      let one = has_times q ps here in
      let itself : cond {A = ℕ} (bytes_eq q q) 1 0 ≡ 1 = ap (λ b. cond {A = ℕ} b 1 0) ((bytes_eq-Decides q q).1 refl) in
      (q, omega arith)
  | inr later ↦ let (p, two) = repeated_times ps later in (p, omega arith)
]

times_repeated : (p : Policy) (ps : List Policy) → 2 ≤ times p ps → is_repeated ps ≡ true
unfolding times
times_repeated p [] h = absurd (omega arith)
times_repeated p (q ∷ ps) h = by (bytes_eq q p) refl h (λ more. times_repeated p ps more)
  where
    by : (b : Bool) → bytes_eq q p ≡ b → 2 ≤ cond b 1 0 + times p ps → (2 ≤ times p ps → is_repeated ps ≡ true) → (has ps q || is_repeated ps) ≡ true
    by true e t more = or_left (has ps q) (is_repeated ps) (subst (λ r. has ps r ≡ true) (sym ((bytes_eq-Decides q p).0 e)) (times_has p ps (omega arith)))
    by false e t more = or_right (has ps q) (is_repeated ps) (more (omega arith))

repeated_moved : (ps qs : List Policy) → IsPermutation ps qs → is_repeated qs ≡ true → is_repeated ps ≡ true
repeated_moved ps qs h again = let (p, two) = repeated_times qs again in times_repeated p ps (subst (λ n. 2 ≤ n) (times_moved p ps qs h) two)

module _ (E : Lent → Lent → Bool) (ties : (x y : Lent) → E x y ≡ eq_by_cmp Order x y) where
  dedup_long : (k : Lent) (xs : List Lent) → length (dedup_from E k xs) ≤ suc (length xs)
  dedup_long k [] = omega arith
  dedup_long k (x ∷ xs) = by (E x k) (dedup_long k xs) (dedup_long x xs)
    where
      by : (b : Bool) → length (dedup_from E k xs) ≤ suc (length xs) → length (dedup_from E x xs) ≤ suc (length xs) → length (cond b (dedup_from E k xs) (k ∷ dedup_from E x xs)) ≤ suc (suc (length xs))
      by true one two = omega arith
      by false one two = omega arith

  dedup_short : (k : Lent) (xs : List Lent) → length (dedup_from E k xs) < suc (length xs) → is_repeated (octets_of (k ∷ xs)) ≡ true
  dedup_short k [] h = absurd (omega arith)
  dedup_short k (x ∷ xs) h = by (E x k) refl h (λ more. dedup_short x xs more)
    where
      by : (b : Bool) → E x k ≡ b → length (cond b (dedup_from E k xs) (k ∷ dedup_from E x xs)) < suc (suc (length xs))
          → (length (dedup_from E x xs) < suc (length xs) → is_repeated (octets_of (x ∷ xs)) ≡ true) → is_repeated (octets_of (k ∷ (x ∷ xs))) ≡ true
      by true e s more =
          or_left (has (octets_of (x ∷ xs)) k.now) (is_repeated (octets_of (x ∷ xs))) (has-first x.now (octets_of xs) k.now ∙ or_left (bytes_eq x.now k.now) (has (octets_of xs) k.now) ((bytes_eq-Decides x.now k.now).1 (same_octets E ties x k e)))
      by false e s more = or_right (has (octets_of (x ∷ xs)) k.now) (is_repeated (octets_of (x ∷ xs))) (more (omega arith))

  dedup_full : (k : Lent) (xs : List Lent) → suc (length xs) ≤ length (dedup_from E k xs) → dedup_from E k xs ≡ k ∷ xs
  dedup_full k [] h = refl
  dedup_full k (x ∷ xs) h = by (E x k) h (dedup_long k xs) (λ more. dedup_full x xs more)
    where
      by : (b : Bool) → suc (suc (length xs)) ≤ length (cond b (dedup_from E k xs) (k ∷ dedup_from E x xs)) → length (dedup_from E k xs) ≤ suc (length xs)
          → (suc (length xs) ≤ length (dedup_from E x xs) → dedup_from E x xs ≡ x ∷ xs) → cond b (dedup_from E k xs) (k ∷ dedup_from E x xs) ≡ k ∷ (x ∷ xs)
      by true s long more = absurd (omega arith)
      by false s long more = ap (λ l. k ∷ l) (more (omega arith))

below_none : (x : Lent) (xs : List Lent) → AllByRecursion (λ y. Order x y ≡ Less) xs → has (octets_of xs) x.now ≡ false
below_none x [] all = has-none x.now
below_none x (y ∷ xs) (first, more) =
    let apart : bytes_eq x.now y.now ≡ false = sym (is_eq-slice_cmp x.now y.now) ∙ ap is_eq first in
    let other : bytes_eq y.now x.now ≡ false = is_false (bytes_eq y.now x.now) (λ t. not_both (bytes_eq x.now y.now) ((bytes_eq-Decides x.now y.now).1 (sym ((bytes_eq-Decides y.now x.now).0 t))) apart) in
    has-first y.now (octets_of xs) x.now ∙ (ap (λ b. b || has (octets_of xs) x.now) other ∙ below_none x xs more)

pub strictly_once : (xs : List Lent) → IsStrictlySortedBy Order xs → is_repeated (octets_of xs) ≡ false
unfolding IsStrictlySortedBy
strictly_once [] h = refl
strictly_once (x ∷ xs) (first, more) = ap (λ b. b || is_repeated (octets_of xs)) (below_none x xs first) ∙ strictly_once xs more

module _ (E : Lent → Lent → Bool) (ties : (x y : Lent) → E x y ≡ eq_by_cmp Order x y) where
  short_repeats : (ys : List Lent) → length (dedup E ys) < length ys → is_repeated (octets_of ys) ≡ true
  short_repeats [] h = absurd (omega arith)
  short_repeats (y ∷ ys) h = dedup_short E ties y ys (omega arith)

  full_same : (ys : List Lent) → length ys ≤ length (dedup E ys) → dedup E ys ≡ ys
  full_same [] h = refl
  full_same (y ∷ ys) h = dedup_full E ties y ys (omega arith)

  module _ (xs ys zs : List Lent) (h : IsPermutation xs ys) (sorted : IsSorted Order ys) (e : zs ≡ dedup E ys) where
    octets : IsPermutation (octets_of xs) (octets_of ys)
    octets = IsPermutation-map (λ (q : Lent). q.now) xs ys h

    long : length ys ≡ length xs
    long = length_permutation xs ys h

    when_short : length zs < length xs → is_repeated (octets_of xs) ≡ true
    when_short short =
        let same = long in
        let less : length zs < length ys = omega arith in
        repeated_moved (octets_of xs) (octets_of ys) octets (short_repeats ys (subst (λ l. length l < length ys) e less))

    when_full : length xs ≤ length zs → is_repeated (octets_of xs) ≡ true → ⊥
    when_full full again =
        let same = long in
        let whole : length ys ≤ length zs = omega arith in
        let alone : is_repeated (octets_of ys) ≡ false = ap (λ l. is_repeated (octets_of l)) (sym (full_same ys (subst (λ l. length ys ≤ length l) e whole))) ∙ strictly_once (dedup E ys) (strictly E ties ys sorted) in
        not_both (is_repeated (octets_of ys)) (repeated_moved (octets_of ys) (octets_of xs) (IsPermutation-sym (octets_of xs) (octets_of ys) octets) again) alone

    short_when : is_repeated (octets_of xs) ≡ true → length zs < length xs
    short_when again = elim (cases_lt (length zs) (length xs)) [ inl short ↦ short | inr full ↦ absurd (when_full full again) ]

    pub repeats : is_repeated (octets_of xs) ≡ nat_lt (length (octets_of zs)) (length xs)
    repeats = ltb_from_iff (short_when, when_short) ∙ ap (λ n. nat_lt n (length xs)) (sym (length-map zs (λ (q : Lent). q.now)))
