-- A text cut into parts, byte by byte: a tool, which the proofs show to be what Parts.antt says.
use Rattle.std.specs.Prelude.{ℕ, Bool, true, false, nat_eq, List, [], ◌∷◌, Option, Some, None, if◌then◌else◌}
use Rattle.std.specs.List.{onto_first}
use Rattle.x509_name.specs.declared.text.parts.Parts.{Parts}
use Rattle.std.specs.Borrow.{Bor}

-- Whether a text escapes the byte behind it, told whether its own first byte is escaped. None where the separator stands in it
-- outside an escape.
abbrev pub passes : ℕ → List ℕ → Bool → Option Bool
passes separator [] escaped = Some escaped
passes separator (byte ∷ text) true = passes separator text false
passes separator (byte ∷ text) false = if nat_eq byte separator then None else passes separator text (nat_eq byte 92)

-- the parts of a text, told whether its first byte is escaped
unfoldable pub cut : ℕ → List ℕ → Bool → List (List ℕ)
cut separator [] escaped = [] ∷ []
cut separator (byte ∷ text) true = onto_first byte (cut separator text false)
cut separator (byte ∷ text) false =
    if nat_eq byte separator then [] ∷ cut separator text false else onto_first byte (cut separator text (nat_eq byte 92))

-- the parts of a text that may be there
abbrev pub cut_if_some : ℕ → Option (Bor (List ℕ)) → List (List ℕ)
cut_if_some separator None = []
cut_if_some separator (Some text) = cut separator text.now false

-- what an iterator has still to give
abbrev pub parts_left : Parts → List (List ℕ)
parts_left parts = cut_if_some parts.separator parts.rest
