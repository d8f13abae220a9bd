-- Keys, of which one may begin with another, and sets of them.
use Rattle.std.specs.Prelude.{◌≡◌, ℕ, Bool, true, false, nat_lt, ◌==◌, List, [], ◌∷◌, Option, None, Some, if◌then◌else◌}
use Rattle.std.specs.List.{AllPairs, list_any}

-- the key begins with the other one
abbrev pub begins : List ℕ → List ℕ → Bool
begins key [] = true
begins [] (p ∷ ps) = false
begins (x ∷ xs) (p ∷ ps) = if x == p then begins xs ps else false

-- where the two first differ, both have a symbol, and the first key the smaller one
abbrev pub forks : List ℕ → List ℕ → Bool
forks [] ys = false
forks (x ∷ xs) [] = false
forks (x ∷ xs) (y ∷ ys) = if x == y then forks xs ys else nat_lt x y

-- the keys ascend, and none begins with another
abbrev pub AreApart : List (List ℕ) → Type 0
AreApart keys = AllPairs (λ a b. forks a b ≡ true) keys

-- the key begins with one of them
abbrev pub has_prefix : List (List ℕ) → List ℕ → Bool
has_prefix keys key = list_any (λ p. begins key p) keys

-- the first key is at or before the second, in the order of words in a dictionary
abbrev pub upto : List ℕ → List ℕ → Bool
upto [] ys = true
upto (x ∷ xs) [] = false
upto (x ∷ xs) (y ∷ ys) = if x == y then upto xs ys else nat_lt x y

-- the key begins with that one, if there is one
abbrev pub begins_one : List ℕ → Option (List ℕ) → Bool
begins_one key None = false
begins_one key (Some p) = begins key p
