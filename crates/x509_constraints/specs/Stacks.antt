-- Several sets of keys.
use Rattle.std.specs.Prelude.{ℕ, Bool, List}
use Rattle.std.specs.List.{list_all, list_any}
use Rattle.x509_constraints.specs.Prefixes.{has_prefix}

-- the key begins with one of each of the sets
abbrev pub in_all : List (List (List ℕ)) → List ℕ → Bool
in_all sets key = list_all (λ set. has_prefix set key) sets

-- the key begins with one of some of them
abbrev pub in_some : List (List (List ℕ)) → List ℕ → Bool
in_some sets key = list_any (λ set. has_prefix set key) sets
