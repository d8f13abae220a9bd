-- The search for the one key of a set with which a key may begin.
use Rattle.std.proofs.Common.{nat_lt, ◌≡◌, ◌⊎◌, inl, inr, ℕ, ◌-◌, ◌<◌, ◌≤◌, Bool, true, false, List, length, get_or, refl, sym, ◌∙◌, ap, arith}
use Rattle.std.proofs.lemmas.Bool.{cases_order}
use Rattle.std.proofs.lemmas.Bool.Decides.{nat_tests}
use Rattle.std.proofs.lemmas.List.{get_or_default}
use Rattle.std.proofs.lemmas.List.Folds.{list_any_at, list_any_none}
use Rattle.x509_constraints.specs.Prefixes.{AreApart, begins, forks, has_prefix, upto}
use Rattle.x509_constraints.proofs.Keys.{begins-first, begins-second, upto-begins}

-- a key of the set with which this one begins stands from low on and below high
pub record IsBetween (keys : List (List ℕ)) (key : List ℕ) (low high : ℕ) : Type 0 where
  pub fits : high ≤ length keys
  pub ordered : low ≤ high
  pub between : (j : ℕ) (d : List ℕ) → j < length keys → begins key (get_or keys j d) ≡ true → (low ≤ j) × (j < high)

clash : (b : Bool) → b ≡ true → b ≡ false → ⊥
clash b t f = let e : true ≡ false = sym t ∙ f in cc

-- one at or before the key is at or before the one that is sought
pub rightwards : (keys : List (List ℕ)) (key : List ℕ) (low high middle : ℕ) (x : List ℕ) → AreApart keys → IsBetween keys key low high →
    low ≤ middle → middle < high → x ≡ get_or keys middle x → upto x key ≡ true → IsBetween keys key middle high
rightwards keys key low high middle x apart was from under at before = record {
  fits = was.fits;
  ordered = omega arith;
  between = λ j d inside is.
      let old = was.between j d inside is in
      let far : middle < length keys = omega (arith, was.fits) in
      let found : begins key (get_or keys j x) ≡ true = ap (begins key) (get_or_default keys j x d inside) ∙ is in
      let to_right : (j ≡ middle) ⊎ ((j < middle) ⊎ (middle < j)) → middle ≤ j = λ side. elim side [
        | inl same ↦ omega arith
        | inr (inl left) ↦
            let fork : forks (get_or keys j x) x ≡ true = ap (forks (get_or keys j x)) at ∙ apart j middle x left far in
            absurd (clash (upto x key) before (begins-first (get_or keys j x) x key fork found))
        | inr (inr right) ↦ omega arith
      ] in
      (to_right (cases_order j middle), old.1);
}

-- one behind the key is behind the one that is sought
pub leftwards : (keys : List (List ℕ)) (key : List ℕ) (low high middle : ℕ) (x : List ℕ) → AreApart keys → IsBetween keys key low high →
    low ≤ middle → middle < high → x ≡ get_or keys middle x → upto x key ≡ false → IsBetween keys key low middle
leftwards keys key low high middle x apart was from under at behind = record {
  fits = omega (arith, was.fits);
  ordered = from;
  between = λ j d inside is.
      let old = was.between j d inside is in
      let found : begins key (get_or keys j x) ≡ true = ap (begins key) (get_or_default keys j x d inside) ∙ is in
      let to_left : (j ≡ middle) ⊎ ((j < middle) ⊎ (middle < j)) → j < middle = λ side. elim side [
        | inl same ↦
            let here : get_or keys j x ≡ x = ap (λ i. get_or keys i x) same ∙ sym at in
            absurd (clash (upto x key) (upto-begins key x (ap (begins key) (sym here) ∙ found)) behind)
        | inr (inl left) ↦ left
        | inr (inr right) ↦
            let fork : forks x (get_or keys j x) ≡ true = ap (λ y. forks y (get_or keys j x)) at ∙ apart middle j x right inside in
            absurd (clash (upto x key) (begins-second x (get_or keys j x) key fork found) behind)
      ] in
      (old.0, to_left (cases_order j middle));
}

-- at the end one is left, or none
pub one_left : (keys : List (List ℕ)) (key : List ℕ) (low high : ℕ) (x : List ℕ) → IsBetween keys key low high → high - low ≤ 1 → low < high →
    x ≡ get_or keys low x → begins key x ≡ has_prefix keys key
one_left keys key low high x was few some at = by_answer (begins key x) refl
  where
    by_answer : (b : Bool) → begins key x ≡ b → begins key x ≡ has_prefix keys key
    by_answer true is = is ∙ sym (list_any_at (λ p. begins key p) keys low x (omega (arith, was.fits)) (ap (begins key) (sym at) ∙ is))
    by_answer false is = is ∙ sym (list_any_none (λ p. begins key p) keys (λ j d inside. not_at j d inside (begins key (get_or keys j d)) refl))
      where
        not_at : (j : ℕ) (d : List ℕ) → j < length keys → (b : Bool) → begins key (get_or keys j d) ≡ b → begins key (get_or keys j d) ≡ false
        not_at j d inside false is_not = is_not
        not_at j d inside true begun =
            let old = was.between j d inside begun in
            let same : j ≡ low = omega arith in
            let here : get_or keys j d ≡ x = get_or_default keys j d x inside ∙ (ap (λ i. get_or keys i x) same ∙ sym at) in
            absurd (clash (begins key x) (ap (begins key) (sym here) ∙ begun) is)

pub none_left : (keys : List (List ℕ)) (key : List ℕ) (low high : ℕ) → IsBetween keys key low high → high ≤ low → false ≡ has_prefix keys key
none_left keys key low high was none = sym (list_any_none (λ p. begins key p) keys (λ j d inside. not_at j d inside (begins key (get_or keys j d)) refl))
  where
    not_at : (j : ℕ) (d : List ℕ) → j < length keys → (b : Bool) → begins key (get_or keys j d) ≡ b → begins key (get_or keys j d) ≡ false
    not_at j d inside false is_not = is_not
    not_at j d inside true begun =
        let old = was.between j d inside begun in
        absurd (omega arith)

pub ltb_not : (a b : ℕ) → b ≤ a → nat_lt a b ≡ false
ltb_not a b h = grind (arith, nat_tests)
