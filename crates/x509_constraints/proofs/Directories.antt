-- Keys of directory names say which subtrees have them.
use Rattle.std.proofs.Common.{◌≡◌, ◌↔◌, ℕ, ◌≤◌, length, take, true, false, List, [], ◌∷◌, ◌++◌, map, refl, sym, ◌∙◌, ap, append_assoc}
use Rattle.std.proofs.lemmas.List.{take_all}
use Rattle.std.specs.List.{flat_map}
use Rattle.x509_constraints.specs.Directory.{directory_key, rdn_key}
use Rattle.x509_constraints.proofs.KeyLaws.{stops_meet, stops_same}
use Rattle.x509_constraints.specs.Keys.{stop, symbols}
use Rattle.x509_constraints.specs.Prefixes.{begins}

-- the subtree's RDNs are the first of the name
abbrev pub IsWithinDirectory : List (List ℕ) → List (List ℕ) → Type 0
IsWithinDirectory name subtree = (rest : List (List ℕ)) × (name ≡ subtree ++ rest)

begins_none : (xs ys : List ℕ) (y : ℕ) → begins [] (xs ++ y ∷ ys) ≡ false
begins_none [] ys y = refl
begins_none (x ∷ xs) ys y = refl

key-cons : (rdn : List ℕ) (rest : List (List ℕ)) → directory_key (rdn ∷ rest) ≡ symbols rdn ++ stop ∷ directory_key rest
key-cons rdn rest = append_assoc (symbols rdn) (stop ∷ []) (directory_key rest)

pub directory_answers : (name subtree : List (List ℕ)) → (begins (directory_key name) (directory_key subtree) ≡ true) ↔ IsWithinDirectory name subtree
directory_answers name [] = ((λ h. (name, refl)), (λ h. refl))
directory_answers [] (s ∷ subtree) = (
  (λ h. let e : false ≡ true = sym (ap (begins []) (key-cons s subtree) ∙ begins_none (symbols s) (directory_key subtree) stop) ∙ h in absurd (cc)),
  (λ within. never within),
)
  where
    never : IsWithinDirectory [] (s ∷ subtree) → begins [] (directory_key (s ∷ subtree)) ≡ true
    never (rest, is) = absurd (cc)
directory_answers (n ∷ name) (s ∷ subtree) = (forth (directory_answers name subtree), back (directory_answers name subtree))
  where
    forth : (begins (directory_key name) (directory_key subtree) ≡ true) ↔ IsWithinDirectory name subtree →
        begins (directory_key (n ∷ name)) (directory_key (s ∷ subtree)) ≡ true → IsWithinDirectory (n ∷ name) (s ∷ subtree)
    forth others h =
        let met = stops_meet n s (directory_key name) (directory_key subtree)
        (sym (ap (λ k. begins k (symbols s ++ stop ∷ directory_key subtree)) (key-cons n name))
        ∙ (sym (ap (begins (directory_key (n ∷ name))) (key-cons s subtree)) ∙ h)) in
        let more = others.0 met.1 in
        (more.0, ap (λ r. r ∷ name) met.0 ∙ ap (λ l. s ∷ l) more.1)

    back : (begins (directory_key name) (directory_key subtree) ≡ true) ↔ IsWithinDirectory name subtree → IsWithinDirectory (n ∷ name) (s ∷ subtree) →
        begins (directory_key (n ∷ name)) (directory_key (s ∷ subtree)) ≡ true
    back others (rest, is) =
        let same : n ≡ s = cc in
        let tail : name ≡ subtree ++ rest = cc in
        let more = others.1 (rest, tail) in
        ap (begins (directory_key (n ∷ name))) (key-cons s subtree) ∙ (ap (λ k. begins k (symbols s ++ stop ∷ directory_key subtree)) (key-cons n name)
        ∙ (ap (λ r. begins (symbols r ++ stop ∷ directory_key name) (symbols s ++ stop ∷ directory_key subtree)) same
        ∙ stops_same s (directory_key name) (directory_key subtree) more))

pub flat_map-map : {X : Type 0} (g : X → List ℕ) (xs : List X) → flat_map rdn_key (map g xs) ≡ flat_map (λ x. rdn_key (g x)) xs
flat_map-map g [] = refl
flat_map-map g (x ∷ xs) = ap (λ l. rdn_key (g x) ++ l) (flat_map-map g xs)

-- the key as the loop leaves it
pub key_of_taken : {X : Type 0} (g : X → List ℕ) (xs : List X) (n : ℕ) (start key : List ℕ) → length xs ≤ n →
    key ≡ start ++ flat_map (λ x. rdn_key (g x)) (take n xs) → key ≡ start ++ directory_key (map g xs)
key_of_taken g xs n start key all is = is ∙ ap (λ l. start ++ l) (ap (flat_map (λ x. rdn_key (g x))) (take_all n xs all) ∙ sym (flat_map-map g xs))
