-- The type that a word names, by rows of words and types.
use Rattle.std.specs.Prelude.{ℕ, List, [], ◌∷◌, Option, Some, None, bytes_eq, if◌then◌else◌}
use Rattle.x509_tool_run.specs.declared.command.Kind.{Kind}

-- that of the first row with the word
abbrev pub kind_among : List ℕ → List (List ℕ × Kind) → Option Kind
kind_among word [] = None
kind_among word (row ∷ rows) = if bytes_eq word row.0 then Some row.1 else kind_among word rows
