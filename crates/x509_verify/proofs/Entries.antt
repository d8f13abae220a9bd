-- Entries under one key, of entries in the order of their keys.
use Rattle.std.proofs.Common.{◌≡◌, ◌∙◌, ◌⊎◌, inl, inr, ℕ, zero, suc, ◌+◌, ◌-◌, ◌<◌, ◌≤◌, Bool, true, false, List, [], ◌∷◌, ◌++◌, length, take, drop, get_or, filter, cond, refl, sym, ap, subst, arith}
use Rattle.std.proofs.lemmas.Bool.{cases_lt, true≢false}
use Rattle.std.proofs.lemmas.List.{append-nil, get_or-drop, get_or-take, length-drop, length-take-le, take-append-drop}
use Rattle.std.proofs.lemmas.List.Elements.{filter-append}
use Rattle.std.proofs.lemmas.List.Sorted.{IsNonDecreasingBy-drop, searchable_from_sorted}
use Rattle.std.specs.Cmp.{IsTotalOrder}
use Rattle.std.specs.List.{AllWithin, Contains}
use Rattle.std.specs.List.Sorted.{IsNonDecreasingBy, IsPartitionPoint, IsPartitionedBy}
use Rattle.std.specs.Ordering.{is_eq, is_le, is_lt, ordering_index}
use Rattle.std.specs.declared.cmp.Ordering.{Ordering}
use Rattle.std.specs.declared.cmp.Ordering.TheVariants.{Less, Equal, Greater}
use Rattle.x509_verify.specs.Keyed.{IsInOrder}
use Rattle.x509_verify.specs.declared.keyed.Keyed.{Keyed}

lt_down : (a b : Ordering) → ordering_index a ≤ ordering_index b → is_lt b ≡ true → is_lt a ≡ true
lt_down Less b le is = refl
lt_down Equal Less le is = absurd (omega (arith, le))
lt_down Equal Equal le is = is
lt_down Equal Greater le is = is
lt_down Greater Less le is = absurd (omega (arith, le))
lt_down Greater Equal le is = is
lt_down Greater Greater le is = is

le_down : (a b : Ordering) → ordering_index a ≤ ordering_index b → is_le b ≡ true → is_le a ≡ true
le_down Less b le is = refl
le_down Equal b le is = refl
le_down Greater Less le is = absurd (omega (arith, le))
le_down Greater Equal le is = absurd (omega (arith, le))
le_down Greater Greater le is = is

pub equal : (a : Ordering) → is_eq a ≡ true → a ≡ Equal
equal Less is = absurd (true≢false (sym is))
equal Equal is = refl
equal Greater is = absurd (true≢false (sym is))

-- it lies between those before and those behind
is_eq_before : (a : Ordering) → is_lt a ≡ true → is_eq a ≡ false
is_eq_before Less is = refl
is_eq_before Equal is = absurd (true≢false (sym is))
is_eq_before Greater is = refl

is_eq_behind : (a : Ordering) → is_le a ≡ false → is_eq a ≡ false
is_eq_behind Less is = absurd (true≢false is)
is_eq_behind Equal is = absurd (true≢false is)
is_eq_behind Greater is = refl

is_eq_between : (a : Ordering) → is_lt a ≡ false → is_le a ≡ true → is_eq a ≡ true
is_eq_between Less early is = absurd (true≢false early)
is_eq_between Equal early is = refl
is_eq_between Greater early is = absurd (true≢false (sym is))

-- of elements that all fail the test none is left, and of those that pass it all are
filter_none : {X : Type 0} (p : X → Bool) (xs : List X) → ((k : ℕ) (d : X) → k < length xs → p (get_or xs k d) ≡ false) → filter p xs ≡ []
filter_none p [] fails = refl
filter_none p (x ∷ xs) fails =
    ap (λ b. cond b (x ∷ filter p xs) (filter p xs)) (fails 0 x (omega arith)) ∙ filter_none p xs (λ k d less. fails (suc k) d (omega (arith, less)))

filter_every : {X : Type 0} (p : X → Bool) (xs : List X) → ((k : ℕ) (d : X) → k < length xs → p (get_or xs k d) ≡ true) → filter p xs ≡ xs
filter_every p [] passes = refl
filter_every p (x ∷ xs) passes =
    ap (λ b. cond b (x ∷ filter p xs) (filter p xs)) (passes 0 x (omega arith)) ∙ ap (λ ys. x ∷ ys) (filter_every p xs (λ k d less. passes (suc k) d (omega (arith, less))))

module _ {K V : Type 0} (entries : List (Keyed K V)) (low count : ℕ) (within : low ≤ length entries) (enough : count ≤ length (drop low entries)) where
  at : (k : ℕ) (d : Keyed K V) → k < count → get_or (take count (drop low entries)) k d ≡ get_or entries (low + k) d
  at k d less = get_or-take count (drop low entries) k d less ∙ get_or-drop low entries k d

  pub some_found : (entry : Keyed K V) → Contains (take count (drop low entries)) entry → Contains entries entry
  some_found entry (k, less, is) =
      let size = length-take-le count (drop low entries) enough in
      let here : k < count = omega (arith, less, size) in
      let rest = length-drop low entries in
      (low + k, omega (arith, here, enough, rest, within), sym (at k entry here) ∙ is)

module _ {K V : Type 0} {R : K → K → Ordering} (o : IsTotalOrder R) (key : K) where
  abbrev pub before : Keyed K V → Bool
  before entry = is_lt (R entry.key key)

  abbrev pub up_to : Keyed K V → Bool
  up_to entry = is_le (R entry.key key)

  module _ (entries : List (Keyed K V)) (up : IsInOrder R entries) where
    rises : IsNonDecreasingBy (λ (entry : Keyed K V). ordering_index (R entry.key key)) entries
    rises = searchable_from_sorted o (λ (entry : Keyed K V). entry.key) entries key up

    pub parted_before : IsPartitionedBy before entries
    parted_before i j d le less is = lt_down (R (get_or entries i d).key key) (R (get_or entries j d).key key) (rises i j d le less) is

    pub parted_up_to : (low : ℕ) → IsPartitionedBy up_to (drop low entries)
    parted_up_to low i j d le less is =
        let more = IsNonDecreasingBy-drop (λ (entry : Keyed K V). ordering_index (R entry.key key)) low entries rises in
        le_down (R (get_or (drop low entries) i d).key key) (R (get_or (drop low entries) j d).key key) (more i j d le less) is

    module _ (low count : ℕ) (within : low ≤ length entries) (enough : count ≤ length (drop low entries))
        (first : IsPartitionPoint (λ entry. before entry ≡ true) (λ entry. before entry ≡ false) entries low)
        (last : IsPartitionPoint (λ entry. up_to entry ≡ true) (λ entry. up_to entry ≡ false) (drop low entries) count) where
      pub every_found : (entry : Keyed K V) → Contains entries entry → R entry.key key ≡ Equal → Contains (take count (drop low entries)) entry
      every_found entry (k, less, is) same = elim (cases_lt k low) [
        | inl early ↦ absurd (true≢false (sym (first.0 k entry (omega arith) early) ∙ ap is_lt (ap (λ (e : Keyed K V). R e.key key) is ∙ same)))
        | inr late ↦
            let place : low + (k - low) ≡ k = omega (arith, late) in
            let there : get_or (drop low entries) (k - low) entry ≡ entry = get_or-drop low entries (k - low) entry ∙ ap (λ n. get_or entries n entry) place ∙ is in
            let size = length-drop low entries in
            elim (cases_lt (k - low) count) [
              | inl here ↦ (k - low, omega (arith, here, length-take-le count (drop low entries) enough), get_or-take count (drop low entries) (k - low) entry here ∙ there)
              | inr past ↦ absurd (true≢false (sym (ap is_le (ap (λ (e : Keyed K V). R e.key key) there ∙ same)) ∙ last.1 (k - low) entry past (omega (arith, less, size, late))))
            ]
      ]

      -- and those are all that are equal
      pub all_found : (eq : K → K → Bool) → ((k : K) → eq k key ≡ is_eq (R k key)) → take count (drop low entries) ≡ filter (λ (entry : Keyed K V). eq entry.key key) entries
      all_found eq same =
          let p : Keyed K V → Bool = λ entry. eq entry.key key in
          let behind = drop low entries in
          let size = length-take-le count behind enough in
          let rest = length-drop count behind in
          let many = length-take-le low entries within in
          let early : filter p (take low entries) ≡ [] = filter_none p (take low entries) (λ k d less.
          let here : k < low = omega (arith, less, many) in
          ap p (get_or-take low entries k d here) ∙ (same (get_or entries k d).key ∙ is_eq_before (R (get_or entries k d).key key) (first.0 k d (omega (arith, here, within)) here))) in
          let late : filter p (drop count behind) ≡ [] = filter_none p (drop count behind) (λ k d less.
          let there : count + k < length behind = omega (arith, less, rest, enough) in
          ap p (get_or-drop count behind k d) ∙ (same (get_or behind (count + k) d).key ∙ is_eq_behind (R (get_or behind (count + k) d).key key) (last.1 (count + k) d (omega arith) there))) in
          let middle : filter p (take count behind) ≡ take count behind = filter_every p (take count behind) (λ k d less.
          let here : k < count = omega (arith, less, size) in
          let inside : low + k < length entries = omega (arith, here, enough, length-drop low entries, within) in
          ap p (get_or-take count behind k d here) ∙ (same (get_or behind k d).key ∙ is_eq_between (R (get_or behind k d).key key)
          (ap (λ (e : Keyed K V). is_lt (R e.key key)) (get_or-drop low entries k d) ∙ first.1 (low + k) d (omega arith) inside) (last.0 k d (omega (arith, here, enough)) here))) in
          sym (
          ap (filter p) (sym (take-append-drop low entries)) ∙ (filter-append p (take low entries) behind ∙ (ap (λ xs. xs ++ filter p behind) early
          ∙ (ap (filter p) (sym (take-append-drop count behind)) ∙ (filter-append p (take count behind) (drop count behind)
          ∙ (ap (λ xs. filter p (take count behind) ++ xs) late ∙ (append-nil (filter p (take count behind)) ∙ middle))))))
          )
