-- What of a subject's name is kept where only control of its domains was validated (CA/Browser Forum, Baseline Requirements
-- 7.1.2.7.2).
use Rattle.std.specs.Prelude.{ℕ, Bool, true, false, List, [], ◌∷◌, filter, map, bytes_eq, not, ◌||◌}
use Rattle.x509_name.specs.declared.attr.type_and_value.AttributeTypeAndValue.{AttributeTypeAndValue}
use Rattle.x509_name.specs.AttributeTypes.{common_name, country_name}

unfoldable pub is_domain_type : List ℕ → Bool
is_domain_type oid = bytes_eq oid country_name || bytes_eq oid common_name

-- the attributes of those two types
abbrev pub domain_attributes : List AttributeTypeAndValue → List AttributeTypeAndValue
domain_attributes rdn = filter (λ a. is_domain_type a.oid) rdn

abbrev pub is_nil : {X : Type 0} → List X → Bool
is_nil [] = true
is_nil (x ∷ xs) = false

-- each relative name keeps its attributes of those types, and goes where it has none
abbrev pub domain_name : List (List AttributeTypeAndValue) → List (List AttributeTypeAndValue)
domain_name name = filter (λ rdn. not (is_nil rdn)) (map domain_attributes name)
