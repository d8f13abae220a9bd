-- What names are inputs of: a name of a directory is of the files in it.
use Rattle.std.specs.Prelude.{◌≡◌, ℕ, Bool, true, false, ◌||◌, List, [], ◌∷◌, ◌++◌, codes, nat_eq, if◌then◌else◌}
use Rattle.std.specs.Cmp.Lexicographic.{slice_cmp}
use Rattle.std.specs.List.{ends_with}
use Rattle.std.specs.List.Sorted.{IsPermutation, IsSorted}
use Rattle.std.specs.Ordering.{nat_cmp}
use Rattle.x509_object_run.specs.Labels.{is_standard}
use Rattle.x509_object_run.specs.declared.files.Place.{Place}
use Rattle.x509_object_run.specs.declared.files.Place.TheVariants.{File, Directory, Special, Unknown}

-- what a directory may list: the names of its entries, in any order, and whether these are all
abbrev pub Lists : Type 1
Lists = List ℕ → List (List ℕ) → Bool → Type 0

-- what may stand at a path
abbrev pub Stands : Type 1
Stands = List ℕ → Place → Type 0

abbrev pub is_directory : Place → Bool
is_directory File = false
is_directory Directory = true
is_directory Special = false
is_directory Unknown = false

-- of the entries of a directory files are inputs, and those that can't be looked at
abbrev pub is_input : Place → Bool
is_input File = true
is_input Directory = false
is_input Special = false
is_input Unknown = true

-- an entry is named behind its directory and a slash
abbrev pub entry_path : List ℕ → List ℕ → List ℕ
entry_path directory name = if ends_with nat_eq directory (codes "/") then directory ++ name else directory ++ (codes "/" ++ name)

-- the inputs among entries of a directory, in their order
abbrev pub AreEntries : Stands → List ℕ → List (List ℕ) → List (List ℕ) → Type 0
AreEntries stands directory [] inputs = inputs ≡ []
AreEntries stands directory (name ∷ names) inputs =
    (place : Place) × (others : List (List ℕ)) × stands (entry_path directory name) place × AreEntries stands directory names others
    × (inputs ≡ (if is_input place then entry_path directory name ∷ others else others))

-- The inputs of a directory: those among its entries, in the order of the octets of their names; behind them the directory itself, where these aren't all.
abbrev pub AreListed : Lists → Stands → List ℕ → List (List ℕ) → Type 0
AreListed lists stands directory inputs =
    (listed : List (List ℕ)) × (names : List (List ℕ)) × (entries : List (List ℕ)) × (whole : Bool)
    × lists directory listed whole × IsPermutation listed names × IsSorted (slice_cmp nat_cmp) names
    × AreEntries stands directory names entries
    × (inputs ≡ entries ++ (if whole then [] else directory ∷ []))

-- whether a name may be that of a directory; that of standard input is not
abbrev pub MayBeDirectory : Stands → Bool → List ℕ → Bool → Type 0
MayBeDirectory stands true name directory = directory ≡ false
MayBeDirectory stands false name directory = (place : Place) × stands name place × (directory ≡ is_directory place)

-- the inputs of a name, where it is that of a directory or isn't
abbrev pub AreInside : Lists → Stands → Bool → List ℕ → List (List ℕ) → Type 0
AreInside lists stands true name inputs = AreListed lists stands name inputs
AreInside lists stands false name inputs = inputs ≡ name ∷ []

-- the inputs of a name, and whether it is that of a directory
abbrev pub AreOf : Lists → Stands → List ℕ → List (List ℕ) → Bool → Type 0
AreOf lists stands name inputs directory = MayBeDirectory stands (is_standard name) name directory × AreInside lists stands directory name inputs

-- the inputs of names, one after the other, and whether a directory is among the names
abbrev pub AreOfAll : Lists → Stands → List (List ℕ) → List (List ℕ) → Bool → Type 0
AreOfAll lists stands [] inputs directory = (inputs ≡ []) × (directory ≡ false)
AreOfAll lists stands (name ∷ names) inputs directory =
    (first : List (List ℕ)) × (others : List (List ℕ)) × (here : Bool) × (behind : Bool)
    × AreOf lists stands name first here × AreOfAll lists stands names others behind
    × (inputs ≡ first ++ others) × (directory ≡ (here || behind))

-- inputs of which this holds stand behind those before
abbrev pub AreAdded : (List (List ℕ) → Type 0) → List (List ℕ) → List (List ℕ) → Type 0
AreAdded so old new = (added : List (List ℕ)) × so added × (new ≡ old ++ added)
