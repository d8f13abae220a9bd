-- What comes from a reader, and how it ends.
use Rattle.std.specs.Prelude.{◌<◌, ◌≤◌, ℕ, List, [], length, Option, Some, None, Result, Ok, Err}
use Rattle.x509_der.specs.declared.error.ErrorKind.TheVariants.{Memory, Overlength, Malformed, Failed, SetDuplicate, Value}
use Rattle.x509_tool_run.specs.declared.refusal.Refusal.{Refusal}
use Rattle.x509_tool_run.specs.declared.refusal.Refusal.TheVariants.{Read, Because}
use Rattle.x509_tool_run.specs.Transfer.{Moves}

-- the most bytes that are read as an input
abbrev pub input_limit : ℕ
input_limit = 16777216

-- the most reads that are made
abbrev pub read_limit : ℕ
read_limit = 16777217

pub data Input : Type 0 where
  -- the end came after these bytes
  Whole : (bytes : List ℕ) → Input
  -- more came than the limit
  TooLong : Input
  -- a read failed
  Unreadable : Input
  -- reading stopped since memory was refused
  Unkept : Input

-- Reads lead from one state to another and give this input. Each read but the last gives bytes; the last one finds the
-- end, fails, or passes the limit.
abbrev pub IsRead : {S : Type 0} → (S → Option (List ℕ) → S → Type 0) → S → Input → S → Type 0
IsRead {S} step s (Whole bytes) t =
    (u : S) × (reads : ℕ)
    × Moves step s reads bytes u × step u (Some []) t × (length bytes ≤ input_limit) × (reads < read_limit)
IsRead step s TooLong t =
    (bytes : List ℕ) × (reads : ℕ)
    × Moves step s reads bytes t × (input_limit < length bytes) × (reads ≤ read_limit)
IsRead {S} step s Unreadable t =
    (u : S) × (bytes : List ℕ) × (reads : ℕ)
    × Moves step s reads bytes u × step u None t × (length bytes ≤ input_limit) × (reads < read_limit)
IsRead step s Unkept t =
    (bytes : List ℕ) × (reads : ℕ)
    × Moves step s reads bytes t × (reads ≤ read_limit)

-- what reading answers, seen by view, tells which input came
abbrev pub EndsReading : {X S : Type 0} → (X → List ℕ) → (S → Option (List ℕ) → S → Type 0) → S → Result X Refusal → S → Type 0
EndsReading view step s (Ok bytes) t = IsRead step s (Whole (view bytes)) t
EndsReading view step s (Err Read) t = IsRead step s Unreadable t
EndsReading view step s (Err (Because Memory)) t = IsRead step s Unkept t
EndsReading view step s (Err (Because Overlength)) t = IsRead step s TooLong t
EndsReading view step s (Err (Because Malformed)) t = ⊥
EndsReading view step s (Err (Because Failed)) t = ⊥
EndsReading view step s (Err (Because SetDuplicate)) t = ⊥
EndsReading view step s (Err (Because Value)) t = ⊥
