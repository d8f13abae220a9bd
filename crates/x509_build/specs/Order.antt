-- The order of a name's attributes (CA/Browser Forum, Baseline Requirements 7.1.4.1, 7.1.4.2): which RDN breaks it
-- first, and how.
use Rattle.std.specs.Prelude.{◌≡◌, ◌<◌, ℕ, Bool, false, List, [], ◌∷◌, Option, Some, None, Result, Ok, Err, bytes_eq, nat_le, take, slice_get, option_and_then, if◌then◌else◌, ◌&&◌, not}
use Rattle.std.specs.List.{list_any, position_from}
use Rattle.x509_name.specs.declared.attr.type_and_value.AttributeTypeAndValue.{AttributeTypeAndValue}
use Rattle.x509_name.specs.AttributeTypes.{common_name, country_name, domain_component, given_name, locality_name, state_or_province_name, organization_name, organizational_unit_name, postal_code, street_address, surname}
use Rattle.x509_build.specs.declared.error.Error.{Error}
use Rattle.x509_build.specs.declared.error.Error.TheVariants.{NonUniqueRdn, NonUniqueATV, InvalidAttribute}

-- ---- the order of types

-- the types whose order is fixed, in that order
unfoldable pub ordered_types : List (List ℕ)
ordered_types =
    domain_component ∷ country_name ∷ state_or_province_name ∷ locality_name ∷ postal_code ∷ street_address
    ∷ organization_name ∷ surname ∷ given_name ∷ organizational_unit_name ∷ common_name ∷ []

-- the place of a type in the order, from 0 on; None for a type whose order isn't fixed
unfoldable pub place_of : List ℕ → Option ℕ
place_of oid = position_from (λ listed. bytes_eq listed oid) 0 ordered_types

-- ---- what a relative name is held against

-- some attribute of a relative name has the type
abbrev pub is_there : List ℕ → List AttributeTypeAndValue → Bool
is_there oid rdn = list_any (λ a. bytes_eq a.oid oid) rdn

-- some attribute of these relative names has the type
abbrev pub has_type : List ℕ → List (List AttributeTypeAndValue) → Bool
has_type oid rdns = list_any (is_there oid) rdns

-- the place is that one or a later one
abbrev pub is_from : ℕ → Option ℕ → Bool
is_from place None = false
is_from place (Some other) = nat_le place other

-- some attribute of these relative names has a type of that place or of a later one
abbrev pub has_from : ℕ → List (List AttributeTypeAndValue) → Bool
has_from place rdns = list_any (λ rdn. list_any (λ a. is_from place (place_of a.oid)) rdn) rdns

-- a type of this place comes too late behind these relative names
abbrev pub is_late : Option ℕ → List (List AttributeTypeAndValue) → Bool
is_late None earlier = false
is_late (Some place) earlier = has_from place earlier

-- How a relative name breaks the rules behind the earlier ones, if it does: it hasn't just one attribute; or the type of
-- that one was there already, unless this is allowed; or the type comes too late.
abbrev pub break_of : Bool → List (List AttributeTypeAndValue) → List AttributeTypeAndValue → Option Error
break_of multiple_allowed earlier [] = Some NonUniqueRdn
break_of multiple_allowed earlier (a ∷ []) =
    if not multiple_allowed && has_type a.oid earlier then Some NonUniqueATV
    else (if is_late (place_of a.oid) earlier then Some (InvalidAttribute a.oid) else None)
break_of multiple_allowed earlier (a ∷ b ∷ others) = Some NonUniqueRdn

-- ---- the answer

-- how the relative name at that place of the name breaks the rules, if there is one and it does
abbrev pub break_at : Bool → List (List AttributeTypeAndValue) → ℕ → Option Error
break_at multiple_allowed name k = option_and_then (break_of multiple_allowed (take k name)) (slice_get name k)

-- none breaks them; or the first that does breaks them so
abbrev pub FirstBreak : Bool → List (List AttributeTypeAndValue) → Option Error → Type 0
FirstBreak multiple_allowed name None = (k : ℕ) → break_at multiple_allowed name k ≡ None
FirstBreak multiple_allowed name (Some e) =
    (k : ℕ) × (break_at multiple_allowed name k ≡ Some e) × ((j : ℕ) → j < k → break_at multiple_allowed name j ≡ None)

-- what a check answers: it succeeds exactly where none breaks them, and is else refused by the first break
abbrev pub IsChecked : {T : Type 0} → Bool → List (List AttributeTypeAndValue) → Result T Error → Type 0
IsChecked multiple_allowed name (Ok t) = FirstBreak multiple_allowed name None
IsChecked multiple_allowed name (Err e) = FirstBreak multiple_allowed name (Some e)
