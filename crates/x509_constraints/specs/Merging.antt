-- Two lists of keys as one, the lesser first. A tool of the proofs.
use Rattle.std.specs.Prelude.{ℕ, Bool, true, false, List, [], ◌∷◌, Option, None, Some, if◌then◌else◌}
use Rattle.x509_constraints.specs.Prefixes.{upto}

-- x among the others, and what merges what stands behind it with the rest of them
abbrev pub into : List ℕ → (List (List ℕ) → List (List ℕ)) → List (List ℕ) → List (List ℕ)
into x behind [] = x ∷ behind []
into x behind (y ∷ ys) = if upto x y then x ∷ behind (y ∷ ys) else y ∷ into x behind ys

abbrev pub merge : List (List ℕ) → List (List ℕ) → List (List ℕ)
merge [] ys = ys
merge (x ∷ xs) ys = into x (merge xs) ys

-- the first of the one list is the next
abbrev pub is_first : Option (List ℕ) → Option (List ℕ) → Bool
is_first (Some x) (Some y) = upto x y
is_first (Some x) None = true
is_first None y = false
