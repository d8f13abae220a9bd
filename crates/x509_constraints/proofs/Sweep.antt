-- The sweep that keeps, of keys in ascending order, those that begin with no other.
use Rattle.std.proofs.Common.{◌≡◌, ◌⊎◌, inl, inr, ℕ, suc, ◌-◌, ◌<◌, Bool, true, false, ◌||◌, List, [], ◌∷◌, ◌++◌, length, get_or, refl, sym, ◌∙◌, ap, arith, subst, add-one, append_assoc, Option, None, Some, length-append}
use Rattle.std.proofs.lemmas.Bool.{cases_order}
use Rattle.std.proofs.lemmas.List.Folds.{list_any-append, list_any_at}
use Rattle.std.proofs.lemmas.List.Quantifiers.{all_pairs_push}
use Rattle.std.proofs.lemmas.Option.{get_or_from_slice_get, slice_get_within, slice_get-get_or}
use Rattle.std.proofs.lemmas.List.{get_or_push}
use Rattle.std.specs.Cmp.Lexicographic.{slice_cmp}
use Rattle.std.specs.List.{list_any, slice_get}
use Rattle.std.specs.List.Sorted.{IsPermutation, IsSorted}
use Rattle.std.proofs.lemmas.List.Sorted.{list_any-IsPermutation}
use Rattle.std.specs.Ordering.{nat_cmp}
use Rattle.x509_constraints.specs.Prefixes.{AreApart, begins, begins_one, forks, has_prefix, upto}
use Rattle.x509_constraints.proofs.Keys.{begins-trans, forks-trans, forks-upto, is_below, upto-not_below, upto-trans}

-- each is at or before the next
abbrev pub Rises : List ℕ → List (List ℕ) → Type 0
Rises x [] = Unit {0}
Rises x (y ∷ ys) = (upto x y ≡ true) × Rises y ys

abbrev pub IsRising : List (List ℕ) → Type 0
IsRising [] = Unit {0}
IsRising (x ∷ xs) = Rises x xs

pub IsRising-from_sort : (xs : List (List ℕ)) → IsSorted (slice_cmp nat_cmp) xs → IsRising xs
IsRising-from_sort [] h = tt
IsRising-from_sort (x ∷ []) h = tt
IsRising-from_sort (x ∷ y ∷ ys) h = (
  upto-not_below x y (sym (is_below y x (slice_cmp nat_cmp y x) refl) ∙ h 0 [] (omega arith) (omega arith)),
  IsRising-from_sort (y ∷ ys) (λ k d low fits. let e = h (suc k) d (omega arith) (omega arith) in simp add-one (simp add-one at e)),
)

-- the keys begin, from their front on, behind x, if any does
pub Rises-trans : (x y : List ℕ) (zs : List (List ℕ)) → upto x y ≡ true → Rises y zs → Rises x zs
Rises-trans x y [] h k = tt
Rises-trans x y (z ∷ zs) h k = (upto-trans x y z h k.0, k.1)

abbrev pub last_of : List (List ℕ) → Option (List ℕ)
last_of keys = slice_get keys (length keys - 1)

-- Of all keys, those are kept that begin with no other so far, and the rest is still to be seen.
pub record IsSwept (all kept rest : List (List ℕ)) : Type 0 where
  pub apart : AreApart kept
  pub same : (key : List ℕ) → list_any (λ p. begins key p) (kept ++ rest) ≡ list_any (λ p. begins key p) all
  pub rising : IsRising rest
  pub behind : (k : List ℕ) → last_of kept ≡ Some k → Rises k rest

pub swept_none : (all : List (List ℕ)) → IsSorted (slice_cmp nat_cmp) all → IsSwept all [] all
swept_none all sorted = record {
  apart = λ i j d before inside. absurd (omega arith);
  same = λ key. refl;
  rising =
      IsRising-from_sort all sorted;
  behind = λ k is. absurd (cc);
}

-- whether the key begins with the last of those that are kept
pub over_cases : (o : Option (List ℕ)) (s : List ℕ) (r : Bool) → begins_one s o ≡ r →
    ((o ≡ None) × (r ≡ false)) ⊎ ((k : List ℕ) × (o ≡ Some k) × (begins s k ≡ r))
over_cases None s r h = inl (refl, sym h)
over_cases (Some k) s r h = inr (k, refl, h)

-- what begins with the first of a list has it as its own, and the rest is ascending behind it
pub Rises-tail : (s : List ℕ) (rest : List (List ℕ)) → Rises s rest → IsRising rest
Rises-tail s [] h = tt
Rises-tail s (y ∷ ys) h = h.1

or_absorb : (a b c : Bool) → (b ≡ true → a ≡ true) → (a || c) ≡ (a || (b || c))
or_absorb true b c h = refl
or_absorb false false c h = refl
or_absorb false true c h = let e : false ≡ true = h refl in cc

-- one that begins with the last that is kept goes
pub swept_drop : (all kept rest : List (List ℕ)) (s k : List ℕ) → IsSwept all kept (s ∷ rest) → last_of kept ≡ Some k → begins s k ≡ true →
    IsSwept all kept rest
swept_drop all kept rest s k was last over = record {
  apart = was.apart;
  same = λ key.
      let inside : length kept - 1 < length kept = slice_get_within kept (length kept - 1) k last in
      let at : get_or kept (length kept - 1) k ≡ k = get_or_from_slice_get kept (length kept - 1) k k last in
      let whole : (list_any (λ p. begins key p) kept || (begins key s || list_any (λ p. begins key p) rest)) ≡ list_any (λ p. begins key p) all =
      sym (list_any-append (λ p. begins key p) kept (s ∷ rest)) ∙ was.same key in
      let found : begins key s ≡ true → list_any (λ p. begins key p) kept ≡ true =
      λ is. list_any_at (λ p. begins key p) kept (length kept - 1) k inside (ap (begins key) at ∙ begins-trans key s k is over) in
      list_any-append (λ p. begins key p) kept rest ∙ (or_absorb _ _ _ found ∙ whole);
  rising = Rises-tail s rest was.rising;
  behind = λ k' is. let h = was.behind k' is in Rises-trans k' s rest h.0 h.1;
}

-- another is kept
pub swept_push : (all kept rest : List (List ℕ)) (s : List ℕ) → IsSwept all kept (s ∷ rest) → ((k : List ℕ) → last_of kept ≡ Some k →
    begins s k ≡ false) → IsSwept all (kept ++ s ∷ []) rest
swept_push all kept rest s was over = record {
  apart = all_pairs_push (λ a b. forks a b ≡ true) kept s was.apart (λ i d inside. forked i d inside (last_case inside));
  same = λ key. ap (list_any (λ p. begins key p)) (append_assoc kept (s ∷ []) rest) ∙ was.same key;
  rising = Rises-tail s rest was.rising;
  behind = λ k is.
      let pushed : get_or (kept ++ s ∷ []) (length (kept ++ s ∷ []) - 1) k ≡ s = get_or_push kept s k (length (kept ++ s ∷ []) - 1) (omega (
        arith,
        length-append kept (s ∷ []),
      )) in
      let same_last : s ≡ k = sym pushed ∙ get_or_from_slice_get (kept ++ s ∷ []) (length (kept ++ s ∷ []) - 1) k k is in
      let P : List ℕ → Type 0 = λ x. Rises x rest in subst P same_last was.rising;
}
  where
    -- there is a last one, from which this one forks
    last_case : {i : ℕ} → i < length kept → (k : List ℕ) × (last_of kept ≡ Some k) × (forks k s ≡ true)
    last_case {i} inside =
        let k = get_or kept (length kept - 1) [] in
        let last : last_of kept ≡ Some k = slice_get-get_or kept (length kept - 1) [] (omega arith) in
        (k, last, forks-upto k s (was.behind k last).0 (over k last))

    forked : (i : ℕ) (d : List ℕ) → i < length kept → (k : List ℕ) × (last_of kept ≡ Some k) × (forks k s ≡ true) → forks (get_or kept i d) s ≡ true
    forked i d inside (k, last, fork) =
        let at : get_or kept (length kept - 1) d ≡ k = get_or_from_slice_get kept (length kept - 1) k d last in
        elim (cases_order i (length kept - 1)) [
          | inl same ↦ ap (λ y. forks y s) (ap (λ j. get_or kept j d) same ∙ at) ∙ fork
          | inr (inl before) ↦ forks-trans (get_or kept i d) k s (ap (forks (get_or kept i d)) (sym at)
              ∙ was.apart i (length kept - 1) d before (omega arith)) fork
          | inr (inr past) ↦ absurd (omega arith)
        ]

-- the two as the loop has them
pub swept_drop_step : (all kept rest rest' : List (List ℕ)) (s : List ℕ) (r : Bool) → IsSwept all kept rest → rest ≡ s ∷ rest' →
    r ≡ begins_one s (last_of kept) → r ≡ true → IsSwept all kept rest'
swept_drop_step all kept rest rest' s r was is answer over =
    let P : List (List ℕ) → Type 0 = λ seen. IsSwept all kept seen in
    elim (over_cases (last_of kept) s true (sym answer ∙ over)) [
      | inl no_last ↦ let e : true ≡ false = no_last.1 in absurd (cc)
      | inr (k, last, begun) ↦ swept_drop all kept rest' s k (subst P is was) last begun
    ]

pub swept_push_step : (all kept kept' rest rest' : List (List ℕ)) (s : List ℕ) (r : Bool) → IsSwept all kept rest → rest ≡ s ∷ rest' →
    r ≡ begins_one s (last_of kept) → r ≡ false → kept' ≡ kept ++ s ∷ [] → IsSwept all kept' rest'
swept_push_step all kept kept' rest rest' s r was is answer apart pushed =
    let P : List (List ℕ) → Type 0 = λ seen. IsSwept all kept seen in
    let Q : List (List ℕ) → Type 0 = λ now. IsSwept all now rest' in
    subst Q (sym pushed) (swept_push all kept rest' s (subst P is was)
    (λ k last. sym (ap (begins_one s) last) ∙ (sym answer ∙ apart)))

-- a set of the keys in another order
pub same_set : (keys sorted : List (List ℕ)) → IsPermutation keys sorted → (set : List (List ℕ)) → ((key : List ℕ) →
    has_prefix set key ≡ has_prefix sorted key) →
    (key : List ℕ) → has_prefix set key ≡ has_prefix keys key
same_set keys sorted moved set same key = same key ∙ sym (list_any-IsPermutation (λ p. begins key p) keys sorted moved)
