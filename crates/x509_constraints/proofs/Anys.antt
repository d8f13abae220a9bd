-- What a set answers of the prefixes of several subtrees.
use Rattle.std.proofs.Common.{◌≡◌, ◌↔◌, ℕ, true, ◌||◌, List, [], ◌∷◌, refl, sym, ◌∙◌, ap}
use Rattle.std.proofs.lemmas.List.Folds.{Any-from_list_any, list_any-append, list_any-from_Any}
use Rattle.std.specs.List.{Any, flat_map, list_any}
use Rattle.x509_constraints.specs.Prefixes.{begins, has_prefix}

pub has_prefix-flat_map : {X : Type 0} (f : X → List (List ℕ)) (key : List ℕ) (xs : List X) →
    has_prefix (flat_map f xs) key ≡ list_any (λ x. has_prefix (f x) key) xs
has_prefix-flat_map f key [] = refl
has_prefix-flat_map f key (x ∷ xs) = list_any-append (λ p. begins key p) (f x) (flat_map f xs)
    ∙ ap (λ b. has_prefix (f x) key || b) (has_prefix-flat_map f key xs)

pub Any-by : {X : Type 0} (P Q : X → Type 0) → ((x : X) → P x → Q x) → (xs : List X) → Any P xs → Any Q xs
Any-by P Q each xs (k, x, inside, at, holds) = (k, x, inside, at, each x holds)

-- where the prefixes of each subtree answer whether a name is within it, those of all answer whether it is within one
pub one_of_all : {X : Type 0} (f : X → List (List ℕ)) (key : List ℕ) (IsWithin : X → Type 0) → ((x : X) → (has_prefix (f x) key ≡ true) ↔ IsWithin x) →
    (xs : List X) → (has_prefix (flat_map f xs) key ≡ true) ↔ Any IsWithin xs
one_of_all f key IsWithin answers xs = (
  (λ h. Any-by (λ x. has_prefix (f x) key ≡ true) IsWithin (λ x. (answers x).0) xs (Any-from_list_any (λ x. has_prefix (f x) key) xs (sym
      (has_prefix-flat_map f key xs) ∙ h))),
  (λ any. has_prefix-flat_map f key xs ∙ list_any-from_Any (λ x. has_prefix (f x) key) xs (Any-by IsWithin (λ x. has_prefix (f x) key ≡ true) (λ x.
      (answers x).1) xs any)),
)
