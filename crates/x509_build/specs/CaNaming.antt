-- What a name of a certification authority is made of (CA/Browser Forum, Baseline Requirements 7.1.2.10.2).
use Rattle.std.specs.Prelude.{◌≡◌, ◌⊎◌, ℕ, Bool, false, List, [], ◌∷◌, Option, Some, None, Result, Ok, Err, find, bytes_eq, if◌then◌else◌, ◌&&◌, not}
use Rattle.std.specs.List.{list_any}
use Rattle.x509_name.specs.declared.attr.type_and_value.AttributeTypeAndValue.{AttributeTypeAndValue}
use Rattle.x509_name.specs.Iterators.{members_of}
use Rattle.x509_name.specs.AttributeTypes.{common_name, country_name, locality_name, state_or_province_name, organization_name, postal_code, street_address}
use Rattle.x509_build.specs.declared.error.Error.{Error}
use Rattle.x509_build.specs.declared.error.Error.TheVariants.{InvalidAttribute, MissingAttributes}
use Rattle.x509_build.specs.Order.{FirstBreak, has_type}

-- The types that such a name may have. That each other type is refused is our own rule, which goes beyond 7.1.2.10.2: it calls
-- attributes out of its table NOT RECOMMENDED.
unfoldable pub ca_types : List (List ℕ)
ca_types =
    country_name ∷ state_or_province_name ∷ locality_name ∷ postal_code ∷ street_address ∷ organization_name ∷ common_name ∷ []

unfoldable pub is_ca_type : List ℕ → Bool
is_ca_type oid = list_any (λ listed. bytes_eq listed oid) ca_types

-- it has the types that such a name has to have
unfoldable pub has_ca_types : List (List AttributeTypeAndValue) → Bool
has_ca_types name = has_type country_name name && (has_type organization_name name && has_type common_name name)

-- what is wrong with the types of a name, if something is: the first that it may not have; or not all that it has to have
-- are there
abbrev pub wrong_type : Option AttributeTypeAndValue → Bool → Option Error
wrong_type (Some a) complete = Some (InvalidAttribute a.oid)
wrong_type None complete = if complete then None else Some MissingAttributes

abbrev pub wrong_types : List (List AttributeTypeAndValue) → Option Error
wrong_types name = wrong_type (find (λ a. not (is_ca_type a.oid)) (members_of name)) (has_ca_types name)

-- what a check answers: it succeeds exactly where no relative name breaks the order, each type being there once at most,
-- and nothing is wrong with the types; it is else refused by the first break, and without one by what is wrong
abbrev pub IsCaName : {T : Type 0} → List (List AttributeTypeAndValue) → Result T Error → Type 0
IsCaName name (Ok t) = FirstBreak false name None × (wrong_types name ≡ None)
IsCaName name (Err e) = FirstBreak false name (Some e) ⊎ (FirstBreak false name None × (wrong_types name ≡ Some e))
