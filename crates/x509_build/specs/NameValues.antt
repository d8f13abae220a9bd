-- Attributes of names that are made of texts: which string types and how many characters each allows (RFC 5280 4.1.2.4, appendix A.1).
use Rattle.std.specs.List.{list_all, list_any}
use Rattle.std.specs.Prelude.{ℕ, Bool, true, not, ◌&&◌, ◌||◌, nat_le, nat_lt, bytes_eq, List, [], ◌∷◌, length, Option, Some, None, if◌then◌else◌}
use Rattle.std.specs.Str.{chars}
use Rattle.x509_build.specs.declared.name.string_type.StringType.{StringType}
use Rattle.x509_build.specs.declared.name.string_type.StringType.TheVariants.{Printable, Ia5, Utf8, Bmp}
use Rattle.x509_der.specs.Element.{element, limit}
use Rattle.x509_der.specs.Tag.{octet_of}
use Rattle.x509_der.specs.declared.error.ErrorKind.{ErrorKind}
use Rattle.x509_der.specs.declared.error.ErrorKind.TheVariants.{Failed, Overlength, Value}
use Rattle.x509_der.specs.declared.tag.Tag.{Tag}
use Rattle.x509_der.specs.declared.tag.Tag.TheVariants.{PrintableString, Ia5String, Utf8String, BmpString}
use Rattle.x509_name.specs.AttributeTypes as types
use Rattle.x509_name.specs.declared.attr.type_and_value.AttributeTypeAndValue.{AttributeTypeAndValue}
use Rattle.x509_prim.specs.Alphabet.{is_printable, is_ia5}
use Rattle.x509_prim.specs.Bmp.{bmp_octets, is_bmp_char}

-- ---- the string types

abbrev pub tag_of : StringType → Tag
tag_of Printable = PrintableString
tag_of Ia5 = Ia5String
tag_of Utf8 = Utf8String
tag_of Bmp = BmpString

-- the one with a tag
abbrev pub with_tag : Tag → Option StringType
with_tag PrintableString = Some Printable
with_tag Ia5String = Some Ia5
with_tag Utf8String = Some Utf8
with_tag BmpString = Some Bmp
with_tag _ = None

-- whether each character of the text is one of the type's (X.680 41); those of the first two are one octet each
abbrev pub has_text : StringType → List ℕ → Bool
has_text Printable text = list_all is_printable text
has_text Ia5 text = list_all is_ia5 text
has_text Utf8 text = true
has_text Bmp text = list_all is_bmp_char (chars text)

-- the content octets of the text in the type: those of its UTF-8, or two for each character (X.690 8.23)
abbrev pub content_of : StringType → List ℕ → List ℕ
content_of Printable text = text
content_of Ia5 text = text
content_of Utf8 text = text
content_of Bmp text = bmp_octets (chars text)

-- ---- which of them an attribute allows

abbrev pub is_among : List (List ℕ) → List ℕ → Bool
is_among listed oid = list_any (λ type. bytes_eq type oid) listed

-- PrintableString alone
unfoldable pub printable_types : List (List ℕ)
printable_types = types.country_name ∷ types.serial_number ∷ types.dn_qualifier ∷ []

-- IA5String alone
unfoldable pub ia5_types : List (List ℕ)
ia5_types = types.domain_component ∷ types.email_address ∷ []

-- DirectoryString: of those that are offered all but IA5String
unfoldable pub directory_types : List (List ℕ)
directory_types =
    types.name ∷ types.surname ∷ types.given_name ∷ types.initials ∷ types.generation_qualifier ∷ types.common_name ∷ types.locality_name
    ∷ types.state_or_province_name ∷ types.organization_name ∷ types.organizational_unit_name ∷ types.title ∷ types.pseudonym ∷ []

-- An attribute that the appendix doesn't name allows each of them.
abbrev pub allows : List ℕ → StringType → Bool
allows oid Printable = not (is_among ia5_types oid)
allows oid Ia5 = not (is_among printable_types oid || is_among directory_types oid)
allows oid Utf8 = not (is_among printable_types oid || is_among ia5_types oid)
allows oid Bmp = not (is_among printable_types oid || is_among ia5_types oid)

-- the one that an attribute is given where none is told: UTF8String, where it allows that
abbrev pub wanted : List ℕ → StringType
wanted oid = if is_among printable_types oid then Printable else if is_among ia5_types oid then Ia5 else Utf8

-- ---- how many characters

-- up to ub-common-name, ub-organization-name, ub-organizational-unit-name, ub-title and ub-serial-number
unfoldable pub types_to_64 : List (List ℕ)
types_to_64 = types.common_name ∷ types.organization_name ∷ types.organizational_unit_name ∷ types.title ∷ types.serial_number ∷ []

-- up to ub-locality-name, ub-state-name and ub-pseudonym
unfoldable pub types_to_128 : List (List ℕ)
types_to_128 = types.locality_name ∷ types.state_or_province_name ∷ types.pseudonym ∷ []

-- up to ub-emailaddress-length
unfoldable pub types_to_255 : List (List ℕ)
types_to_255 = types.email_address ∷ []

-- up to ub-name
unfoldable pub types_to_32768 : List (List ℕ)
types_to_32768 = types.name ∷ types.surname ∷ types.given_name ∷ types.initials ∷ types.generation_qualifier ∷ []

-- just ub-country-name-alpha-length
unfoldable pub types_of_2 : List (List ℕ)
types_of_2 = types.country_name ∷ []

-- the fewest and the most characters, where the appendix says a SIZE
abbrev pub size_of : List ℕ → Option (ℕ × ℕ)
size_of oid =
    if is_among types_to_64 oid then Some (1, 64)
    else if is_among types_to_128 oid then Some (1, 128)
    else if is_among types_to_255 oid then Some (1, 255)
    else if is_among types_to_32768 oid then Some (1, 32768)
    else if is_among types_of_2 oid then Some (2, 2)
    else None

abbrev pub is_within : Option (ℕ × ℕ) → ℕ → Bool
is_within None count = true
is_within (Some (fewest, most)) count = nat_le fewest count && nat_le count most

-- ---- the attribute

-- the attribute of that type that holds the text in that string type
abbrev pub attribute_of : List ℕ → StringType → List ℕ → AttributeTypeAndValue
attribute_of oid type text = record { oid = oid; value = record { tag = tag_of type; value = content_of type text } }

-- Why no value holds the text in that string type: a character isn't one of the type's, or else the value is over the limit.
abbrev pub value_refusal : StringType → List ℕ → Option ErrorKind
value_refusal type text =
    if not (has_text type text) then Some Value
    else if nat_lt limit (length (element (octet_of (tag_of type)) (content_of type text))) then Some Overlength
    else None

-- Why there is no such attribute: it doesn't allow the string type; or else, where the sizes are asked for, there are too few or too many
-- characters; or else no value holds the text.
abbrev pub refusal_of : List ℕ → StringType → Bool → List ℕ → Option ErrorKind
refusal_of oid type is_bounded text =
    if not (allows oid type) then Some Failed
    else if is_bounded && not (is_within (size_of oid) (length (chars text))) then Some Value
    else value_refusal type text
