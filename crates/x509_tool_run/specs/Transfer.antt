-- Calls that move bytes, one after the other. A step says that a call may lead from one state to another: it moved
-- some bytes, or it failed.
use Rattle.std.specs.Prelude.{◌≡◌, ◌≢◌, ℕ, suc, zero, List, [], ◌++◌, take, Option, Some, None, Result, Ok, Err}
use Rattle.std.specs.Io.KnownBytes.{Keeps, Appends, Consumes, IsAtEnd}

-- what a call moved, by the count that it answered: the front of the bytes at hand
abbrev pub moved : {E : Type 0} → Result ℕ E → List ℕ → Option (List ℕ)
moved (Ok count) bytes = Some (take count bytes)
moved (Err e) bytes = None

-- so many calls in a row, each of which moved at least one byte, moved these bytes in all
abbrev pub Moves : {S : Type 0} → (S → Option (List ℕ) → S → Type 0) → S → ℕ → List ℕ → S → Type 0
Moves step s zero bytes t = (bytes ≡ []) × (t ≡ s)
Moves {S} step s (suc calls) bytes t =
    (u : S) × (before : List ℕ) × (piece : List ℕ)
    × Moves step s calls before u × step u (Some piece) t × (piece ≢ []) × (bytes ≡ before ++ piece)

-- What a reader of std says of a read: it gives the first of the known bytes, none only at their end, and a read that
-- fails gives none.
abbrev pub ReadGives : Option (List ℕ) → Option (List ℕ) → Option (List ℕ) → Type 0
ReadGives old (Some bytes) new = Consumes old new bytes × (bytes ≡ [] → IsAtEnd new)
ReadGives old None new = Keeps old new

-- what a writer of std says of a write: it takes bytes after the known ones, and a write that fails takes none
abbrev pub WriteTakes : Option (List ℕ) → Option (List ℕ) → Option (List ℕ) → Type 0
WriteTakes old (Some bytes) new = Appends old new bytes
WriteTakes old None new = Keeps old new
