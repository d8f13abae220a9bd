-- What an input is called in messages.
use Rattle.std.specs.Prelude.{ℕ, Bool, true, false, List, [], ◌∷◌, bytes_eq, codes, if◌then◌else◌}
use Rattle.std.specs.Char.{is_ascii_control}
use Rattle.std.specs.List.{list_any}

-- whether a name is that of standard input
abbrev pub is_standard : List ℕ → Bool
is_standard name = bytes_eq name (codes "-")

abbrev pub is_empty : List ℕ → Bool
is_empty [] = true
is_empty (byte ∷ bytes) = false

-- a word itself, unless it could end a line
abbrev pub word_label : List ℕ → List ℕ
word_label word = if list_any is_ascii_control word then codes "(a word with control characters)" else word

-- a name itself, unless it could end a line or is none
abbrev pub label_of : List ℕ → List ℕ
label_of name =
    if is_standard name then codes "standard input"
    else if is_empty name then codes "(an empty name)"
    else if list_any is_ascii_control name then codes "(a name with control characters)"
    else name
