-- Bytes that are cut into pieces.
use Rattle.std.specs.Prelude.{◌≡◌, ℕ, List, length, map}
use Rattle.std.specs.List.{flat_map}

-- the pieces have these lengths, and one behind the other they are the bytes
abbrev pub AreCut : List ℕ → List ℕ → List (List ℕ) → Type 0
AreCut bytes lens pieces = (map length pieces ≡ lens) × (flat_map (λ piece. piece) pieces ≡ bytes)
