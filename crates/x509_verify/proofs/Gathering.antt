-- Entries that are made of those given that have some property.
use Rattle.std.proofs.Common.{◌≡◌, ◌↔◌, ◌∙◌, ◌⊎◌, inl, inr, ℕ, zero, suc, ◌+◌, ◌<◌, ◌≤◌, List, [], ◌∷◌, ◌++◌, length, get_or, map, refl, sym, ap, subst, arith}
use Rattle.std.proofs.lemmas.Bool.{cases_lt}
use Rattle.std.proofs.Math.Nat.{eq-or-lt_of_le}
use Rattle.std.proofs.lemmas.List.Elements.{All-nil, All-push, Contains-append_left, Contains-append_cases, Contains-push, Contains-push_cases}
use Rattle.std.proofs.lemmas.List.Sorted.{All-permutation, Contains-permutation, IsPermutation-map, IsPermutation-sym}
use Rattle.std.specs.List.{All, Contains}
use Rattle.std.specs.List.Sorted.{IsPermutation}

map-push : {X E : Type 0} (value : E → X) (entries : List E) (e : E) → map value (entries ++ e ∷ []) ≡ map value entries ++ value e ∷ []
map-push value [] e = refl
map-push value (d ∷ entries) e = ap (λ xs. value d ∷ xs) (map-push value entries e)

module _ {X E : Type 0} (value : E → X) (P : X → Type 0) (U : E → Type 0) (given : List X) where
  -- they are of the first n that are given, and of each of these that has the property
  pub record Gathered (n : ℕ) (entries : List E) : Type 0 where
    pub under : All U entries
    pub sound : (x : X) → Contains (map value entries) x → Contains given x × P x
    pub every : (x : X) (k : ℕ) → k < n → k < length given → get_or given k x ≡ x → P x → Contains (map value entries) x

  pub gathered_none : Gathered 0 []
  gathered_none = record {
    under = All-nil U;
    sound = λ x (k, less, is). absurd (omega (arith, less));
    every = λ x k less within is has. absurd (omega (arith, less));
  }

  module _ (n m : ℕ) (next : m ≡ n + 1) (entries : List E) (so_far : Gathered n entries) where
    pub one_more : (e : E) → U e → n < length given → get_or given n (value e) ≡ value e → P (value e) → Gathered m (entries ++ e ∷ [])
    one_more e under within is has = record {
      under = All-push U entries e so_far.under under;
      sound = λ x among. elim (Contains-push_cases (map value entries) (value e) x (subst (λ xs. Contains xs x) (map-push value entries e) among)) [
        | inl before ↦ so_far.sound x before
        | inr same ↦ (subst (λ y. Contains given y) same (n, within, is), subst P same has)
      ];
      every = λ x k less inside at good. subst (λ xs. Contains xs x) (sym (map-push value entries e)) (elim (cases_lt k n) [
        | inl early ↦ Contains-append_left (map value entries) (value e ∷ []) x (so_far.every x k early inside at good)
        | inr late ↦
            let here : k ≡ n = omega (arith, less, late, next) in
            let same : value e ≡ x = one_there n (value e) x within is (subst (λ i. get_or given i x ≡ x) here at) in
            subst (λ y. Contains (map value entries ++ value e ∷ []) y) same (Contains-push (map value entries) (value e))
      ]);
    } where
      one_there : (i : ℕ) (a b : X) → i < length given → get_or given i a ≡ a → get_or given i b ≡ b → a ≡ b
      one_there i a b less x y = sym x ∙ within_any given i a b less ∙ y where
        within_any : (xs : List X) (j : ℕ) (c d : X) → j < length xs → get_or xs j c ≡ get_or xs j d
        within_any [] j c d less = absurd (omega (arith, less))
        within_any (z ∷ xs) zero c d less = refl
        within_any (z ∷ xs) (suc j) c d less = within_any xs j c d (omega (arith, less))

    pub none_more : ((x : X) → get_or given n x ≡ x → P x → ⊥) → Gathered m entries
    none_more without = record {
      under = so_far.under;
      sound = so_far.sound;
      every = λ x k less inside at good. elim (cases_lt k n) [
        | inl early ↦ so_far.every x k early inside at good
        | inr late ↦ let here : k ≡ n = omega (arith, less, late, next) in absurd (without x (subst (λ i. get_or given i x ≡ x) here at) good)
      ];
    }

  -- all that are given, in another order
  pub gathered_all : (n : ℕ) (entries sorted : List E) → Gathered n entries → length given ≤ n → IsPermutation entries sorted
      → All U sorted × ((x : X) → Contains (map value sorted) x ↔ (Contains given x × P x))
  gathered_all n entries sorted all enough same =
      let moved = IsPermutation-map value entries sorted same in (
        All-permutation U entries sorted same all.under,
        λ x. (
          (λ among. all.sound x (Contains-permutation (map value sorted) (map value entries) x (IsPermutation-sym (map value entries) (map value sorted) moved) among)),
          (λ ((k, less, is), good). Contains-permutation (map value entries) (map value sorted) x moved (all.every x k (omega (arith, less, enough)) less is good)),
        ),
      )
