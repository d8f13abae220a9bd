-- Lines of simple values: numbers, object identifiers, names, dates, addresses, elements of any type.
use Rattle.std.specs.Prelude.{ℕ, ◌/◌, ◌^◌, List, [], ◌∷◌, ◌++◌, Bool, true, false, ◌||◌, Option, Some, None, length, take, drop, nat_eq, codes, if◌then◌else◌}
use Rattle.std.specs.Fmt.{decimal}
use Rattle.std.specs.Net.Text as addresses
use Rattle.std.specs.Net.Addr.{segments_of}
use Rattle.hex.specs.Hex.{encode_lower}
use Rattle.x509_base.specs.Serial.{colon_hex}
use Rattle.x509_base.specs.CivilTime.{CivilTime}
use Rattle.x509_base.specs.TimeText.{two_digits, four_digits}
use Rattle.x509_der.specs.ObjectIdentifierForm.{object_identifier}
use Rattle.x509_der.specs.declared.tag.Tag.{Tag}
use Rattle.x509_der.specs.declared.tag.Tag.TheVariants as tags
use Rattle.x509_der.specs.declared.any.Any.{Any}
use Rattle.x509_name.specs.NameText.{name_text}
use Rattle.x509_name.specs.declared.attr.type_and_value.AttributeTypeAndValue.{AttributeTypeAndValue}
use Rattle.x509_prim.specs.BitString.{BitParts}
use Rattle.x509_prim.specs.Integer.{integer_value, natural_below, without_zeros}
use Rattle.x509_text.specs.declared.line.Place.{Place}
use Rattle.x509_text.specs.Lines.{line, below}
use Rattle.x509_text.specs.Names.{oid_text}
use Rattle.x509_text.specs.Payloads.{element_line, octets_line, optional, value_in}

unfoldable pub oid_line : Place → List ℕ → List ℕ → List ℕ
oid_line at label oid = line at label (oid_text oid)

-- a number in decimal digits
unfoldable pub number_line : Place → List ℕ → ℕ → List ℕ
number_line at label number = line at label (decimal number)

abbrev pub optional_number : Place → List ℕ → Option ℕ → List ℕ
optional_number at label number = optional (number_line at label) number

-- a name (RFC 4514)
unfoldable pub name_line : Place → List ℕ → List (List AttributeTypeAndValue) → List ℕ
name_line at label name = line at label (name_text name)

-- a serial number: its content octets in hex, with colons between
unfoldable pub serial_line : Place → List ℕ → List ℕ → List ℕ
serial_line at label content = line at label (colon_hex content)

-- YYYY-MM-DD HH:MM:SS
unfoldable pub second_text : CivilTime → List ℕ
second_text c =
    four_digits c.year ++ codes "-" ++ two_digits c.month ++ codes "-" ++ two_digits c.day ++ codes " "
    ++ two_digits c.hour ++ codes ":" ++ two_digits c.minutes ++ codes ":" ++ two_digits c.seconds

-- YYYY-MM-DD HH:MM:SS UTC
abbrev pub moment_text : CivilTime → List ℕ
moment_text c = second_text c ++ codes " UTC"

unfoldable pub moment_line : Place → List ℕ → CivilTime → List ℕ
moment_line at label moment = line at label (moment_text moment)

-- a number by the content octets of its INTEGER: in decimal digits where it is from 0 to 2^64 - 1, else its octets in hex
abbrev pub natural_text : List ℕ → Option ℕ → List ℕ
natural_text content (Some number) = decimal number
natural_text content None = codes "0x" ++ encode_lower (without_zeros content)

unfoldable pub uint_line : Place → List ℕ → List ℕ → List ℕ
uint_line at label content = line at label (natural_text content (natural_below (2 ^ 64) (integer_value content)))

-- how many bits of the last octet of a BIT STRING are unused, where any are
abbrev pub unused_line : Place → ℕ → List ℕ
unused_line at unused = if nat_eq unused 0 then [] else number_line at (codes "unused bits") unused

-- the octets of a BIT STRING
unfoldable pub bits_lines : Place → List ℕ → BitParts → List ℕ
bits_lines at label bits = octets_line at label bits.octets ++ unused_line (below at) bits.unused

abbrev pub optional_bits : Place → List ℕ → Option BitParts → List ℕ
optional_bits at label bits = optional (bits_lines at label) bits

-- NULL (X.690 8.8)
abbrev pub is_empty : List ℕ → Bool
is_empty [] = true
is_empty (byte ∷ bytes) = false

abbrev pub null_at : Tag → List ℕ → Bool
null_at tags.Null content = is_empty content
null_at tag content = false

abbrev pub is_null : Any → Bool
is_null any = null_at any.tag any.value

abbrev pub oid_or_element : Place → List ℕ → Any → Option (List ℕ) → List ℕ
oid_or_element at label any (Some oid) = oid_line at label oid
oid_or_element at label any None = element_line at label any

-- NULL and object identifiers as such, any other element as its encoding in hex
unfoldable pub any_line : Place → List ℕ → Any → List ℕ
any_line at label any =
    if is_null any then line at label (codes "NULL") else oid_or_element at label any (value_in object_identifier any)

-- ---- addresses

-- an IPv4 address by its four octets: their decimal digits with full stops between (RFC 1123 2.1)
abbrev pub ipv4_text : List ℕ → List ℕ
ipv4_text octets = addresses.ipv4_text octets

-- an IPv6 address by its sixteen octets (RFC 5952)
abbrev pub ipv6_text : List ℕ → List ℕ
ipv6_text octets = addresses.ipv6_text (segments_of octets)

-- in hex where it is neither
abbrev pub plain_address : List ℕ → List ℕ
plain_address octets =
    if nat_eq (length octets) 4 then ipv4_text octets
    else if nat_eq (length octets) 16 then ipv6_text octets
    else encode_lower octets

-- an address, or an address and its mask (RFC 5280 4.2.1.10)
unfoldable pub address_text : List ℕ → List ℕ
address_text octets =
    if nat_eq (length octets) 8 || nat_eq (length octets) 32
    then plain_address (take (length octets / 2) octets) ++ codes "/" ++ plain_address (drop (length octets / 2) octets)
    else plain_address octets
