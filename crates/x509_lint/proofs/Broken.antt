-- Findings, group by group.
use Rattle.std.proofs.Common.{◌≡◌, ◌∙◌, Bool, true, false, cond, List, [], ◌∷◌, ◌++◌, map, filter, refl, sym, ap}
use Rattle.std.proofs.lemmas.List.Elements.{filter-append}

module _ {X Y : Type 0} (f : X → Y) (p : Y → Bool) where
  map-cond : (x : X) (b : Bool) (xs : List X) (ys : List Y) → ys ≡ map f xs → cond b (f x ∷ ys) ys ≡ map f (cond b (x ∷ xs) xs)
  map-cond x true xs ys e = ap (λ zs. f x ∷ zs) e
  map-cond x false xs ys e = e

  -- those of a group that pass the test of all
  pub filter-map : (xs : List X) → filter p (map f xs) ≡ map f (filter (λ x. p (f x)) xs)
  filter-map [] = refl
  filter-map (x ∷ xs) = map-cond x (p (f x)) (filter (λ y. p (f y)) xs) (filter p (map f xs)) (filter-map xs)

  -- the findings behind a further group
  pub behind : (rules : List Y) (xs : List X) (found new : List Y) → found ≡ filter p rules → new ≡ found ++ map f (filter (λ x. p (f x)) xs) → new ≡ filter p (rules ++ map f xs)
  behind rules xs found new so e =
      e ∙ ap (λ ys. ys ++ map f (filter (λ x. p (f x)) xs)) so ∙ ap (λ ys. filter p rules ++ ys) (sym (filter-map xs)) ∙ sym (filter-append p rules (map f xs))
