-- Names that are built of values: attributes of texts, RDNs of attributes, and names of RDNs (RFC 5280 4.1.2.4).
use Rattle.std.specs.List.Sorted.{IsStrictlySortedBy, IsPermutation}
use Rattle.std.specs.Prelude.{◌≡◌, ◌⊎◌, ℕ, Bool, true, false, nat_eq, List, [], Option, Some, None, Result, Ok, Err, Contains, if◌then◌else◌}
use Rattle.std.specs.Str.{is_utf8}
use Rattle.x509_build.specs.NameValues.{attribute_of, refusal_of, wanted}
use Rattle.x509_build.specs.declared.name.string_type.StringType.{StringType}
use Rattle.x509_build.specs.declared.name.string_type.StringType.TheVariants.{Printable, Ia5, Utf8, Bmp}
use Rattle.x509_c_calls.specs.BuildMembers.{IsOid}
use Rattle.x509_c_calls.specs.Calls.{Encodes}
use Rattle.x509_c_calls.specs.Input.{RefusesEach, SpellEach}
use Rattle.x509_der.specs.Set.{AreDistinct}
use Rattle.x509_der.specs.Writing.{plain, writes}
use Rattle.x509_der.specs.declared.error.ErrorKind.{ErrorKind}
use Rattle.x509_der.specs.declared.error.ErrorKind.TheVariants.{Malformed, Failed, SetDuplicate, Value}
use Rattle.x509_name.specs.Escapes.{escaped}
use Rattle.x509_name.specs.Names as names
use Rattle.x509_name.specs.TypeAndValue.{attribute_type_and_value, type_and_value_cmp}
use Rattle.x509_name.specs.declared.attr.type_and_value.AttributeTypeAndValue.{AttributeTypeAndValue}

-- ---- an attribute

-- the string type with an identifier octet, of 0 the one that the attribute wants
abbrev pub string_type_of : List ℕ → ℕ → Option StringType
string_type_of oid number =
    if nat_eq number 0 then Some (wanted oid)
    else if nat_eq number 0x0C then Some Utf8
    else if nat_eq number 0x13 then Some Printable
    else if nat_eq number 0x16 then Some Ia5
    else if nat_eq number 0x1E then Some Bmp
    else None

-- the attribute of the type with that OID that holds the text (x509_build's NameValues)
abbrev pub IsAttributeOf : List ℕ → ℕ → List ℕ → Bool → AttributeTypeAndValue → Type 0
IsAttributeOf oid number text is_bounded made =
    IsOid oid × (is_utf8 text ≡ true)
    × ((type : StringType) × (string_type_of oid number ≡ Some type) × (refusal_of oid type is_bounded text ≡ None) × (made ≡ attribute_of oid type text))

-- why there is none: no OID has the octets; the text isn't UTF-8, or the string type unknown; or the attribute can't have it
abbrev pub RefusesAttribute : List ℕ → ℕ → List ℕ → Bool → ErrorKind → Type 0
RefusesAttribute oid number text is_bounded e =
    ((e ≡ Malformed) × (IsOid oid → ⊥))
    ⊎ (((e ≡ Failed) × IsOid oid × (is_utf8 text ≡ false))
    ⊎ (((e ≡ Failed) × IsOid oid × (string_type_of oid number ≡ None))
    ⊎ (IsOid oid × (is_utf8 text ≡ true) × ((type : StringType) × (string_type_of oid number ≡ Some type) × (refusal_of oid type is_bounded text ≡ Some e)))))

-- its encoding, or why there is none
abbrev pub EncodesAttribute : List ℕ → ℕ → List ℕ → Bool → Result (List ℕ) ErrorKind → Type 0
EncodesAttribute oid number text is_bounded (Ok bytes) =
    (made : AttributeTypeAndValue) × IsAttributeOf oid number text is_bounded made × Encodes attribute_type_and_value (writes plain made) (Ok bytes)
EncodesAttribute oid number text is_bounded (Err e) =
    RefusesAttribute oid number text is_bounded e
    ⊎ ((made : AttributeTypeAndValue) × IsAttributeOf oid number text is_bounded made × Encodes attribute_type_and_value (writes plain made) (Err e))

-- ---- an RDN

-- the set of the attributes whose encodings the bytes are, which are some
abbrev pub IsRelativeNameOf : List ℕ → List AttributeTypeAndValue → Type 0
IsRelativeNameOf bytes rdn =
    (given : List AttributeTypeAndValue) × SpellEach attribute_type_and_value given bytes × (given ≡ [] → ⊥) × IsPermutation given rdn
    × IsStrictlySortedBy type_and_value_cmp rdn

-- there is none: the bytes are refused, or there are none, or two of the attributes are equal
abbrev pub RefusesRelativeName : List ℕ → ErrorKind → Type 0
RefusesRelativeName bytes e =
    RefusesEach attribute_type_and_value (λ e. ⊥) bytes e
    ⊎ (((e ≡ Value) × (bytes ≡ []))
    ⊎ ((given : List AttributeTypeAndValue) × SpellEach attribute_type_and_value given bytes × (e ≡ SetDuplicate) × (¬ AreDistinct given)))

abbrev pub EncodesRelativeName : List ℕ → Result (List ℕ) ErrorKind → Type 0
EncodesRelativeName bytes (Ok made) =
    (rdn : List AttributeTypeAndValue) × IsRelativeNameOf bytes rdn × Encodes names.relative_distinguished_name (writes plain rdn) (Ok made)
EncodesRelativeName bytes (Err e) =
    RefusesRelativeName bytes e
    ⊎ ((rdn : List AttributeTypeAndValue) × IsRelativeNameOf bytes rdn × Encodes names.relative_distinguished_name (writes plain rdn) (Err e))

-- ---- a name

-- the RDNs whose encodings the bytes are, each of which has an attribute
abbrev pub IsNameOf : List ℕ → List (List AttributeTypeAndValue) → Type 0
IsNameOf bytes rdns = SpellEach names.relative_distinguished_name rdns bytes × (¬ Contains rdns [])

abbrev pub RefusesNameOf : List ℕ → ErrorKind → Type 0
RefusesNameOf bytes e =
    RefusesEach names.relative_distinguished_name (λ e. ⊥) bytes e
    ⊎ ((rdns : List (List AttributeTypeAndValue)) × SpellEach names.relative_distinguished_name rdns bytes × (e ≡ Value) × Contains rdns [])

abbrev pub BuildsName : List ℕ → Result (List ℕ) ErrorKind → Type 0
BuildsName bytes (Ok made) = (rdns : List (List AttributeTypeAndValue)) × IsNameOf bytes rdns × Encodes names.name (writes plain rdns) (Ok made)
BuildsName bytes (Err e) =
    RefusesNameOf bytes e
    ⊎ ((rdns : List (List AttributeTypeAndValue)) × IsNameOf bytes rdns × Encodes names.name (writes plain rdns) (Err e))

-- ---- a text with escapes

abbrev pub Escapes : List ℕ → Result (List ℕ) ErrorKind → Type 0
Escapes text (Ok made) = (is_utf8 text ≡ true) × (made ≡ escaped text)
Escapes text (Err e) = (is_utf8 text ≡ false) × (e ≡ Failed)
