-- The words of a program: the arguments after its name.
use Rattle.std.specs.Prelude.{◌≡◌, ℕ, ◌+◌, List, [], ◌∷◌, map, Option, Some, None, if◌then◌else◌}
use Rattle.std.specs.Str.{is_utf8}

-- from a place on these arguments may be given, one at each place, and none at the place behind them
abbrev pub AreGiven : (ℕ → Option (List ℕ) → Type 0) → ℕ → List (List ℕ) → Type 0
AreGiven gives place [] = gives place None
AreGiven gives place (argument ∷ arguments) = gives place (Some argument) × AreGiven gives (place + 1) arguments

-- an argument that isn't UTF-8 counts as the empty word
abbrev pub word_of : List ℕ → List ℕ
word_of argument = if is_utf8 argument then argument else []

-- the words of arguments that may be given behind the program's name
abbrev pub AreWords : (ℕ → Option (List ℕ) → Type 0) → List (List ℕ) → Type 0
AreWords gives words = (arguments : List (List ℕ)) × AreGiven gives 1 arguments × (words ≡ map word_of arguments)
