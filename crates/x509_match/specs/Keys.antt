-- What an attribute is compared by (RFC 5280 7.1, 7.5): its key, one list of octets.
use Rattle.std.specs.Prelude.{ℕ, ◌+◌, ◌*◌, Bool, ◌&&◌, ◌||◌, nat_lt, nat_le, bytes_eq, List, [], ◌∷◌, ◌++◌, map, length, chars, encode_utf8_all, Option, Some, None, option_map, if◌then◌else◌}
use Rattle.std.specs.Char.{to_ascii_lowercase}
use Rattle.std.specs.List.{list_all}
use Rattle.std.specs.Str.{is_utf8}
use Rattle.x509_der.specs.Tag.{octet_of}
use Rattle.x509_der.specs.declared.tag.Tag.{Tag}
use Rattle.x509_der.specs.declared.tag.Tag.TheVariants.{PrintableString, Ia5String, TeletexString, Utf8String, BmpString, UniversalString}
use Rattle.x509_name.specs.AttributeTypes as types
use Rattle.x509_name.specs.declared.attr.type_and_value.AttributeTypeAndValue.{AttributeTypeAndValue}
use Rattle.x509_prim.specs.Alphabet.{is_ia5}
use Rattle.x509_prim.specs.Bmp.{is_bmp, bmp_chars}
use Rattle.x509_match.specs.Prepared.{prepared}

-- the characters that octets below 80 are, which are their UTF-8 too
unfoldable pub ascii_characters : List ℕ → Option (List ℕ)
ascii_characters octets = if list_all is_ia5 octets then Some (chars octets) else None

unfoldable pub utf8_characters : List ℕ → Option (List ℕ)
utf8_characters octets = if is_utf8 octets then Some (chars octets) else None

unfoldable pub bmp_characters : List ℕ → Option (List ℕ)
bmp_characters octets = if is_bmp octets then Some (bmp_chars octets) else None

-- ---- UniversalString: the characters in four octets each, the highest first (X.680 41.16, X.690 8.23.8)

abbrev pub code_of : ℕ → ℕ → ℕ → ℕ → ℕ
code_of a b c d = 256 * (256 * (256 * a + b) + c) + d

-- no half of a surrogate pair, and not above 10FFFF
unfoldable pub is_character : ℕ → Bool
is_character code = nat_lt code 0xD800 || (nat_le 0xE000 code && nat_lt code 0x110000)

abbrev pub universal_characters : List ℕ → Option (List ℕ)
universal_characters [] = Some []
universal_characters (a ∷ b ∷ c ∷ d ∷ octets) =
    if is_character (code_of a b c d) then option_map (λ behind. code_of a b c d ∷ behind) (universal_characters octets) else None
universal_characters _ = None

-- ---- texts

-- The characters of a text that is compared as one. A PrintableString with other ASCII characters than its own is one too, and so is a
-- TeletexString of ASCII.
abbrev pub characters : Tag → List ℕ → Option (List ℕ)
characters PrintableString octets = ascii_characters octets
characters Ia5String octets = ascii_characters octets
characters TeletexString octets = ascii_characters octets
characters Utf8String octets = utf8_characters octets
characters BmpString octets = bmp_characters octets
characters UniversalString octets = universal_characters octets
characters _ octets = None

-- emailAddress (RFC 5280 4.1.2.6) and domainComponent (7.3)
abbrev pub is_caseless : List ℕ → Bool
is_caseless oid = bytes_eq oid types.email_address || bytes_eq oid types.domain_component

-- the characters of which an attribute's text is compared, and nothing where it isn't compared as a text
unfoldable pub compared : List ℕ → List ℕ → Option (List ℕ)
compared oid text = if is_caseless oid then Some (map to_ascii_lowercase text) else prepared text

abbrev pub compared_value : List ℕ → Option (List ℕ) → Option (List ℕ)
compared_value oid None = None
compared_value oid (Some text) = compared oid text

-- the compared text, in UTF-8, behind a 0, or else the element's identifier and content behind a 1
abbrev pub value_key : Option (List ℕ) → Tag → List ℕ → List ℕ
value_key (Some text) tag content = 0 ∷ text
value_key None tag content = 1 ∷ octet_of tag ∷ content

-- how many octets the type has, these, and what the value is compared by
unfoldable pub octets_key : List ℕ → Tag → List ℕ → List ℕ
octets_key oid tag content = length oid ∷ oid ++ value_key (option_map encode_utf8_all (compared_value oid (characters tag content))) tag content

abbrev pub attribute_key : AttributeTypeAndValue → List ℕ
attribute_key a = octets_key a.oid a.value.tag a.value.value
