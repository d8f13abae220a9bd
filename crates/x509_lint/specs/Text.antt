-- Texts of attributes of names: of which type they are, of which characters, and how long (RFC 5280 4.1.2.4, A.1).
use Rattle.std.specs.Prelude.{◌&&◌, ◌||◌, ◌==◌, ◌/◌, ◌%◌, ℕ, Bool, true, false, not, nat_le, nat_lt, List, [], ◌∷◌, length, bytes_eq, if◌then◌else◌}
use Rattle.std.specs.List.{list_all, list_any}
use Rattle.std.specs.Str.{chars, is_utf8}
use Rattle.x509_der.specs.declared.tag.Tag.{Tag}
use Rattle.x509_der.specs.declared.tag.Tag.TheVariants.{BmpString, Ia5String, NumericString, PrintableString, TeletexString, UniversalString, Utf8String, VisibleString}
use Rattle.x509_host.specs.Host.{are_ldh_labels}
use Rattle.x509_name.specs.declared.attr.type_and_value.AttributeTypeAndValue.{AttributeTypeAndValue}
use Rattle.x509_lint.specs.declared.texts.TextFault.{TextFault}
use Rattle.x509_lint.specs.declared.texts.TextFault.TheVariants.{OtherType, OldType, OtherCharacter, Size, Label}

-- ---- types of attributes

-- the type 2.5.4.N
abbrev pub id_at : ℕ → List ℕ
id_at n = 0x55 ∷ 0x04 ∷ n ∷ []

abbrev pub is_among : List ℕ → List ℕ → Bool
is_among numbers oid = list_any (λ n. bytes_eq oid (id_at n)) numbers

-- those that are a DirectoryString: commonName, surname, localityName, stateOrProvinceName, organizationName, organizationalUnitName, title, name,
-- givenName, initials, generationQualifier, pseudonym
abbrev pub directory_numbers : List ℕ
directory_numbers = 3 ∷ 4 ∷ 7 ∷ 8 ∷ 10 ∷ 11 ∷ 12 ∷ 41 ∷ 42 ∷ 43 ∷ 44 ∷ 65 ∷ []

-- those that are a PrintableString: serialNumber, dnQualifier
abbrev pub printable_numbers : List ℕ
printable_numbers = 5 ∷ 46 ∷ []

-- 0.9.2342.19200300.100.1.25
abbrev pub domain_component : List ℕ
domain_component = 0x09 ∷ 0x92 ∷ 0x26 ∷ 0x89 ∷ 0x93 ∷ 0xF2 ∷ 0x2C ∷ 0x64 ∷ 0x01 ∷ 0x19 ∷ []

-- 1.2.840.113549.1.9.1
abbrev pub email_address : List ℕ
email_address = 0x2A ∷ 0x86 ∷ 0x48 ∷ 0x86 ∷ 0xF7 ∷ 0x0D ∷ 0x01 ∷ 0x09 ∷ 0x01 ∷ []

-- those that are an IA5String
abbrev pub is_ia5_type : List ℕ → Bool
is_ia5_type oid = bytes_eq oid domain_component || bytes_eq oid email_address

-- ---- types of strings

abbrev pub is_printable_string : Tag → Bool
is_printable_string PrintableString = true
is_printable_string other = false

abbrev pub is_ia5_string : Tag → Bool
is_ia5_string Ia5String = true
is_ia5_string other = false

abbrev pub is_utf8_string : Tag → Bool
is_utf8_string Utf8String = true
is_utf8_string other = false

-- those of a DirectoryString that new names have
abbrev pub is_new_string : Tag → Bool
is_new_string PrintableString = true
is_new_string Utf8String = true
is_new_string other = false

-- the others of a DirectoryString
abbrev pub is_old_string : Tag → Bool
is_old_string TeletexString = true
is_old_string BmpString = true
is_old_string UniversalString = true
is_old_string other = false

abbrev pub has_other_type : AttributeTypeAndValue → Bool
has_other_type a =
    (is_among directory_numbers a.oid && (not (is_new_string a.value.tag) && not (is_old_string a.value.tag)))
    || ((is_among printable_numbers a.oid && not (is_printable_string a.value.tag)) || (is_ia5_type a.oid && not (is_ia5_string a.value.tag)))

abbrev pub has_old_type : AttributeTypeAndValue → Bool
has_old_type a = is_among directory_numbers a.oid && is_old_string a.value.tag

-- ---- characters (X.680 41)

abbrev pub is_digit : ℕ → Bool
is_digit octet = nat_le 48 octet && nat_le octet 57

-- the marks of PrintableString: a space and ' ( ) + , - . / : = ?
abbrev pub marks : List ℕ
marks = 32 ∷ 39 ∷ 40 ∷ 41 ∷ 43 ∷ 44 ∷ 45 ∷ 46 ∷ 47 ∷ 58 ∷ 61 ∷ 63 ∷ []

abbrev pub is_printable_octet : ℕ → Bool
is_printable_octet octet =
    (nat_le 65 octet && nat_le octet 90) || ((nat_le 97 octet && nat_le octet 122) || (is_digit octet || list_any (λ mark. mark == octet) marks))

-- the octets are a text of the string type; of types that aren't named here nothing is said
abbrev pub is_text : Tag → List ℕ → Bool
is_text Utf8String octets = is_utf8 octets
is_text PrintableString octets = list_all is_printable_octet octets
is_text Ia5String octets = list_all (λ octet. nat_lt octet 128) octets
is_text VisibleString octets = list_all (λ octet. nat_le 32 octet && nat_lt octet 127) octets
is_text NumericString octets = list_all (λ octet. (octet == 32) || is_digit octet) octets
is_text BmpString octets = length octets % 2 == 0
is_text UniversalString octets = length octets % 4 == 0
is_text other octets = true

-- ---- sizes

-- how many characters the octets have in UTF-8; one for each where they aren't UTF-8
abbrev pub utf8_count : List ℕ → ℕ
utf8_count octets = if is_utf8 octets then length (chars octets) else length octets

-- how many characters a text has: those of UTF-8, two octets for each, four octets for each, or one
abbrev pub char_count : Tag → List ℕ → ℕ
char_count Utf8String octets = utf8_count octets
char_count BmpString octets = length octets / 2
char_count UniversalString octets = length octets / 4
char_count other octets = length octets

-- the types with an upper bound of 64: commonName, serialNumber, organizationName, organizationalUnitName, title
abbrev pub numbers_to_64 : List ℕ
numbers_to_64 = 3 ∷ 5 ∷ 10 ∷ 11 ∷ 12 ∷ []

-- of 128: localityName, stateOrProvinceName, pseudonym
abbrev pub numbers_to_128 : List ℕ
numbers_to_128 = 7 ∷ 8 ∷ 65 ∷ []

-- of 32768: surname, name, givenName, initials, generationQualifier
abbrev pub numbers_to_32768 : List ℕ
numbers_to_32768 = 4 ∷ 41 ∷ 42 ∷ 43 ∷ 44 ∷ []

-- there are no characters, or more than the upper bound
abbrev pub is_outside : ℕ → ℕ → Bool
is_outside bound count = (count == 0) || nat_lt bound count

abbrev pub has_odd_size : AttributeTypeAndValue → Bool
has_odd_size a =
    (is_among numbers_to_64 a.oid && is_outside 64 (char_count a.value.tag a.value.value))
    || ((is_among numbers_to_128 a.oid && is_outside 128 (char_count a.value.tag a.value.value))
    || ((is_among numbers_to_32768 a.oid && is_outside 32768 (char_count a.value.tag a.value.value))
    || (bytes_eq a.oid email_address && is_outside 255 (char_count a.value.tag a.value.value))))

-- ---- labels

-- one label of a domain name, as that of a host: letters, digits and hyphens (RFC 4519 2.4)
abbrev pub is_label : List ℕ → Bool
is_label octets = are_ldh_labels octets && not (list_any (λ octet. octet == 46) octets)

-- a domainComponent that is another text
abbrev pub has_no_label : AttributeTypeAndValue → Bool
has_no_label a = bytes_eq a.oid domain_component && not (is_label a.value.value)

-- ---- what is wrong with the text of an attribute

abbrev pub is_faulty_text : TextFault → AttributeTypeAndValue → Bool
is_faulty_text OtherType a = has_other_type a
is_faulty_text OldType a = has_old_type a
is_faulty_text OtherCharacter a = not (is_text a.value.tag a.value.value)
is_faulty_text Size a = has_odd_size a
is_faulty_text Label a = has_no_label a

-- an attribute of the name has the fault
abbrev pub has_faulty_text : TextFault → List (List AttributeTypeAndValue) → Bool
has_faulty_text fault rdns = list_any (λ rdn. list_any (is_faulty_text fault) rdn) rdns

-- an attribute of the name is an emailAddress
abbrev pub has_email : List (List AttributeTypeAndValue) → Bool
has_email rdns = list_any (λ rdn. list_any (λ a. bytes_eq a.oid email_address) rdn) rdns
