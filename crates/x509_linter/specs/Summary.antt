-- A summary: each line of a text without what is seen, once, behind how often it stands there.
use Rattle.std.specs.Prelude.{ℕ, ◌+◌, ◌==◌, Bool, List, [], ◌∷◌, ◌++◌, bytes_eq, codes, if◌then◌else◌}
use Rattle.std.specs.Fmt.{decimal}
use Rattle.std.specs.List.{flat_map, list_any, slice_split}
use Rattle.x509_linter.specs.Lines.{before}

abbrev pub is_among : List ℕ → List (List ℕ) → Bool
is_among line others = list_any (λ other. bytes_eq other line) others

abbrev pub count_of : List ℕ → List (List ℕ) → ℕ
count_of line [] = 0
count_of line (other ∷ others) = if bytes_eq other line then 1 + count_of line others else count_of line others

-- a line, unless it is empty
abbrev pub unless_empty : List ℕ → List (List ℕ)
unless_empty [] = []
unless_empty (octet ∷ octets) = (octet ∷ octets) ∷ []

-- without what is seen, which stands behind a tab
abbrev pub whole_line : List ℕ → List (List ℕ)
whole_line line = unless_empty (before 9 line)

abbrev pub whole_lines : List ℕ → List (List ℕ)
whole_lines text = flat_map whole_line (slice_split (λ octet. octet == 10) text)

-- a line, behind how often it stands among lines
abbrev pub entry : List ℕ → List (List ℕ) → List ℕ
entry line lines = (decimal (count_of line lines) ++ codes " ") ++ (line ++ 10 ∷ [])

-- what is told of it, where some are told of
abbrev pub entry_for : List (List ℕ) → List (List ℕ) → List ℕ → List ℕ
entry_for lines told line = if is_among line told then [] else entry line lines

abbrev pub told_with : List (List ℕ) → List ℕ → List (List ℕ)
told_with told line = if is_among line told then told else told ++ line ∷ []

-- what is told of the rest of the lines, where some are told of
abbrev pub tally_of : List (List ℕ) → List (List ℕ) → List (List ℕ) → List ℕ
tally_of lines told [] = []
tally_of lines told (line ∷ rest) = entry_for lines told line ++ tally_of lines (told_with told line) rest

abbrev pub tally : List (List ℕ) → List ℕ
tally lines = tally_of lines [] lines

abbrev pub summary : List ℕ → List ℕ
summary text = tally (whole_lines text)
