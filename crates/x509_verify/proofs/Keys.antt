-- What is looked up by name.
use Rattle.std.proofs.Common.{◌≡◌, ◌↔◌, ◌∙◌, ◌⊎◌, inl, inr, Bor, ℕ, zero, suc, ◌+◌, ◌<◌, ◌≤◌, Bool, true, false, List, [], ◌∷◌, length, drop, get_or, map, refl, sym, ap, subst, arith}
use Rattle.std.proofs.lemmas.Bool.{cases_lt}
use Rattle.std.specs.List.{All, Contains}

-- an element of a list that is mapped is the image of one of the list
pub from_map : {X Y : Type 0} (f : X → Y) (xs : List X) (y : Y) → Contains (map f xs) y → (x : X) × Contains xs x × (f x ≡ y)
from_map f [] y (k, less, is) = absurd (omega (arith, less))
from_map f (x ∷ xs) y (zero, less, is) = (x, (0, omega arith, refl), is)
from_map f (x ∷ xs) y (suc k, less, is) =
    let (z, (at, within, here), same) = from_map f xs y (k, omega (arith, less), is) in
    (z, (suc at, omega (arith, within), here), same)

pub to_map : {X Y : Type 0} (f : X → Y) (xs : List X) (x : X) → Contains xs x → Contains (map f xs) (f x)
to_map f [] x (k, less, is) = absurd (omega (arith, less))
to_map f (z ∷ xs) x (zero, less, is) = (0, omega arith, ap f is)
to_map f (z ∷ xs) x (suc k, less, is) =
    let (at, within, here) = to_map f xs x (k, omega (arith, less), is) in
    (suc at, omega (arith, within), here)

-- an element of a longer list is the first one, or one of the others
pub first_or_behind : {X : Type 0} (x : X) (xs : List X) (y : X) → Contains (x ∷ xs) y → (x ≡ y) ⊎ Contains xs y
first_or_behind x xs y (zero, less, is) = inl is
first_or_behind x xs y (suc k, less, is) = inr (k, omega (arith, less), is)

pub at_first : {X : Type 0} (x : X) (xs : List X) → Contains (x ∷ xs) x
at_first x xs = (0, omega arith, refl)

pub at_behind : {X : Type 0} (x : X) (xs : List X) (y : X) → Contains xs y → Contains (x ∷ xs) y
at_behind x xs y (k, less, is) = (suc k, omega (arith, less), is)

pub none_there : {X : Type 0} (x : X) → Contains [] x → ⊥
none_there x (k, less, is) = omega (arith, less)

-- within a list the default has no say
pub any_default : {X : Type 0} (xs : List X) (i : ℕ) (a b : X) → i < length xs → get_or xs i a ≡ get_or xs i b
any_default [] i a b less = absurd (omega (arith, less))
any_default (x ∷ xs) zero a b less = refl
any_default (x ∷ xs) (suc i) a b less = any_default xs i a b (omega (arith, less))

-- what holds of each place up to one holds of each up to the next
pub each_further : {X : Type 0} (P : X → Type 0) (xs : List X) (i : ℕ) (e : X) → i < length xs → ((k : ℕ) (d : X) → k < i → P (get_or xs k d)) → P (get_or xs i e)
    → (k : ℕ) (d : X) → k < i + 1 → P (get_or xs k d)
each_further P xs i e within before here k d less = elim (cases_lt k i) [
  | inl early ↦ before k d early
  | inr late ↦
      let same : i ≡ k = omega (arith, less, late) in
      subst (λ n. P (get_or xs n d)) same (subst P (any_default xs i e d within) here)
]

-- and at the end of each element
pub each_element : {X : Type 0} (P : X → Type 0) (xs : List X) (n : ℕ) → length xs ≤ n → ((k : ℕ) (d : X) → k < n → P (get_or xs k d)) → (x : X) → Contains xs x → P x
each_element P xs n all each x (k, less, is) = subst P is (each k x (omega (arith, less, all)))

-- what is lent at a place
pub lent_at : (xs : List (Bor (List ℕ))) (i : ℕ) (d : Bor (List ℕ)) (bytes : List ℕ) → i < length xs → bytes ≡ (get_or xs i d).now → get_or (map (λ lent. lent.now) xs) i bytes ≡ bytes
lent_at [] i d bytes less is = absurd (omega (arith, less))
lent_at (x ∷ xs) zero d bytes less is = sym is
lent_at (x ∷ xs) (suc i) d bytes less is = lent_at xs i d bytes (omega (arith, less)) is

pub lent_there : (xs : List (Bor (List ℕ))) (i : ℕ) (d : Bor (List ℕ)) (bytes : List ℕ) → i < length xs → get_or (map (λ lent. lent.now) xs) i bytes ≡ bytes → bytes ≡ (get_or xs i d).now
lent_there [] i d bytes less is = absurd (omega (arith, less))
lent_there (x ∷ xs) zero d bytes less is = sym is
lent_there (x ∷ xs) (suc i) d bytes less is = lent_there xs i d bytes (omega (arith, less)) is

pub octets_from : (xs : List (Bor (List ℕ))) (i : ℕ) (d : Bor (List ℕ)) (e : List ℕ) → i < length xs → get_or (map (λ lent. lent.now) xs) i e ≡ (get_or xs i d).now
octets_from [] i d e less = absurd (omega (arith, less))
octets_from (x ∷ xs) zero d e less = refl
octets_from (x ∷ xs) (suc i) d e less = octets_from xs i d e (omega (arith, less))

-- what is left of a path from a place on begins with what stands there
pub drop_here : (xs : List (Bor (List ℕ))) (i : ℕ) (d : Bor (List ℕ)) → i < length xs → drop i (map (λ lent. lent.now) xs) ≡ (get_or xs i d).now ∷ drop (suc i) (map (λ lent. lent.now) xs)
drop_here [] i d less = absurd (omega (arith, less))
drop_here (x ∷ xs) zero d less = refl
drop_here (x ∷ xs) (suc i) d less = drop_here xs i d (omega (arith, less))
