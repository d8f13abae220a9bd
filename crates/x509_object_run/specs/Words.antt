-- The words of a program over objects: options, and names of inputs.
use Rattle.std.specs.Prelude.{ℕ, Bool, true, false, List, [], ◌∷◌, ◌==◌, bytes_eq, codes, if◌then◌else◌}
use Rattle.std.specs.List.{list_any}
use Rattle.x509_object_run.specs.declared.words.Part.{Part}
use Rattle.x509_object_run.specs.declared.words.Part.TheVariants as parts

-- a word that begins with `-`, and more behind it
abbrev pub is_option : List ℕ → Bool
is_option [] = false
is_option (first ∷ []) = false
is_option (first ∷ second ∷ others) = first == 45

-- the options among words, up to `--`
abbrev pub options_of : List (List ℕ) → List (List ℕ)
options_of [] = []
options_of (word ∷ words) =
    if is_option word then (if bytes_eq word (codes "--") then [] else word ∷ options_of words)
    else options_of words

-- the other words, and each behind `--`
abbrev pub names_of : List (List ℕ) → List (List ℕ)
names_of [] = []
names_of (word ∷ words) =
    if is_option word then (if bytes_eq word (codes "--") then words else names_of words)
    else word ∷ names_of words

-- what a word is, where `--` stood before or didn't
abbrev pub part_of : Bool → List ℕ → Part
part_of true word = parts.Name
part_of false word = if is_option word then (if bytes_eq word (codes "--") then parts.End else parts.Option) else parts.Name

abbrev pub has_option : List ℕ → List (List ℕ) → Bool
has_option option options = list_any (λ other. bytes_eq other option) options

-- the inputs that are named; standard input where there are none
abbrev pub inputs_of : List (List ℕ) → List (List ℕ)
inputs_of [] = codes "-" ∷ []
inputs_of (name ∷ names) = name ∷ names
