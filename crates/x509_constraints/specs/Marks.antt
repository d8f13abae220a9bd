-- Keys by which attributes that can't be compared are looked up: where in the name one stands, whether it can be compared, and its type.
use Rattle.std.specs.Prelude.{ℕ, ◌+◌, ◌/◌, ◌%◌, Bool, true, false, List, [], ◌∷◌, ◌++◌, map, if◌then◌else◌}
use Rattle.std.specs.List.{flat_map}
use Rattle.x509_ext.specs.declared.pkix.general_subtree.GeneralSubtree.{GeneralSubtree}
use Rattle.x509_ext.specs.declared.pkix.name.general_name.GeneralName.{GeneralName}
use Rattle.x509_ext.specs.declared.pkix.name.general_name.GeneralName.TheVariants.{DirectoryName}
use Rattle.x509_ext.specs.declared.pkix.name_constraints.NameConstraints.{NameConstraints}
use Rattle.x509_match.specs.Matching.{is_compared}
use Rattle.x509_name.specs.declared.attr.type_and_value.AttributeTypeAndValue.{AttributeTypeAndValue}
use Rattle.x509_constraints.specs.Constraints.{excluded}
use Rattle.x509_constraints.specs.Keys.{stop, symbols}
use Rattle.x509_constraints.specs.Prefixes.{has_prefix}

-- how many RDNs stand in front, in four symbols
abbrev pub place_symbols : ℕ → List ℕ
place_symbols place = (place / 65536 / 65536 / 65536) ∷ ((place / 65536 / 65536) % 65536) ∷ ((place / 65536) % 65536) ∷ (place % 65536) ∷ []

abbrev pub mark : ℕ → Bool → List ℕ → List ℕ
mark place compared oid = place_symbols place ++ ((if compared then 1 else 0) ∷ (symbols oid ++ stop ∷ []))

-- ---- of a subtree: what a name must not have there

-- no attribute of the type that can't be compared, and where its own can't be, no other either
abbrev pub marks_against : ℕ → AttributeTypeAndValue → List (List ℕ)
marks_against place b = mark place false b.oid ∷ (if is_compared b then [] else mark place true b.oid ∷ [])

abbrev pub base_marks : ℕ → List (List AttributeTypeAndValue) → List (List ℕ)
base_marks place [] = []
base_marks place (rdn ∷ rdns) = flat_map (λ b. marks_against place b) rdn ++ base_marks (place + 1) rdns

abbrev pub marks_of_base : GeneralName → List (List ℕ)
marks_of_base (DirectoryName base) = base_marks 0 base
marks_of_base _ = []

abbrev pub marks_of : List GeneralSubtree → List (List ℕ)
marks_of subtrees = flat_map (λ subtree. marks_of_base subtree.base) subtrees

-- ---- of a name

abbrev pub mark_at : ℕ → AttributeTypeAndValue → List ℕ
mark_at place a = mark place (is_compared a) a.oid

abbrev pub name_marks : ℕ → List (List AttributeTypeAndValue) → List (List ℕ)
name_marks place [] = []
name_marks place (rdn ∷ rdns) = map (λ a. mark_at place a) rdn ++ name_marks (place + 1) rdns

abbrev pub marks_in : GeneralName → List (List ℕ)
marks_in (DirectoryName name) = name_marks 0 name
marks_in _ = []

-- ---- what one set says

abbrev pub rejects : List ℕ → NameConstraints → Bool
rejects key set = has_prefix (marks_of (excluded set)) key
