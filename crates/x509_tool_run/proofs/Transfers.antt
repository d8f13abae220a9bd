-- Calls that move bytes, one after the other.
use Rattle.std.proofs.Common.{◌≡◌, ◌≢◌, ◌≤◌, ◌+◌, ℕ, suc, zero, List, [], ◌∷◌, ◌++◌, length, Option, Some, refl, arith, add-one, length-append, length-take, take, ap}
use Rattle.x509_tool_run.specs.Transfer.{Moves}

-- a list that isn't empty has an item
pub length-positive : {A : Type 0} (xs : List A) → xs ≢ [] → 1 ≤ length xs
length-positive [] h = absurd (h refl)
length-positive (x ∷ xs) h = omega arith

-- where no byte is taken of enough, none was asked for
pub taken-none : (count : ℕ) (xs : List ℕ) → take count xs ≡ [] → count ≤ length xs → count ≡ 0
taken-none count xs h fits =
    let none : length (take count xs) ≡ 0 = ap length h in
    grind (arith, length-take)

-- so many calls move at least so many bytes
pub Moves-length : {S : Type 0} (step : S → Option (List ℕ) → S → Type 0) (s : S) (calls : ℕ) (bytes : List ℕ) (t : S) → Moves step s calls bytes t → calls ≤ length bytes
Moves-length step s zero bytes t h = omega arith
Moves-length step s (suc calls) bytes t h =
    let before = Moves-length step s calls h.1 h.0 h.3 in
    let one = length-positive h.2 h.5 in
    rw h.6 (rw length-append (omega arith))

-- one call more
pub Moves-more : {S : Type 0} (step : S → Option (List ℕ) → S → Type 0) (s : S) (calls : ℕ) (bytes : List ℕ) (u : S) (piece : List ℕ) (t : S) → Moves step s calls bytes u → step u (Some piece) t → piece ≢ [] → Moves step s (calls + 1) (bytes ++ piece) t
Moves-more step s calls bytes u piece t h moved some = rw add-one (u, bytes, piece, h, moved, some, refl)

-- one call more, seen by the count that it answered
pub Moves-counted : {S : Type 0} (step : S → Option (List ℕ) → S → Type 0) (s : S) (calls : ℕ) (bytes : List ℕ) (u : S) (count : ℕ) (room : List ℕ) (t : S) → Moves step s calls bytes u → step u (Some (take count room)) t → count ≢ 0 → count ≤ length room → Moves step s (calls + 1) (bytes ++ take count room) t
Moves-counted step s calls bytes u count room t h moved some fits =
    Moves-more step s calls bytes u (take count room) t h moved (λ none. some (taken-none count room none fits))
