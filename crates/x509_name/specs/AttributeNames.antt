-- The names of attribute types in texts (RFC 4514 section 3, RFC 4519 section 2, RFC 2985 5.2.1, RFC 5280
-- 4.1.2.4 and A.1). That dnQualifier reads as a UTF8String is told in docs/DEFINITIONS.md.
use Rattle.std.specs.Prelude.{ℕ, List, [], ◌∷◌, codes}
use Rattle.x509_der.specs.declared.tag.Tag.{Tag}
use Rattle.x509_der.specs.declared.tag.Tag.TheVariants.{PrintableString, Ia5String, Utf8String}
use Rattle.x509_name.specs.AttributeTypes as types

-- a type of attribute that has a name
pub record Key : Type 0 where
  pub name : List ℕ
  pub full_name : List ℕ
  pub octets : List ℕ
  pub tag : Tag

-- such a type: the name that is printed, the name in full, its OID, and the tag of a value that is read from a text
abbrev pub named : List ℕ → List ℕ → List ℕ → Tag → Key
named name full_name octets tag = record { name = name; full_name = full_name; octets = octets; tag = tag }

unfoldable pub attribute_names : List Key
attribute_names =
    named (codes "CN") (codes "commonName") types.common_name Utf8String
    ∷ named (codes "SN") (codes "surname") types.surname Utf8String
    ∷ named (codes "SERIALNUMBER") (codes "serialNumber") types.serial_number PrintableString
    ∷ named (codes "C") (codes "countryName") types.country_name PrintableString
    ∷ named (codes "L") (codes "localityName") types.locality_name Utf8String
    ∷ named (codes "ST") (codes "stateOrProvinceName") types.state_or_province_name Utf8String
    ∷ named (codes "STREET") (codes "streetAddress") types.street_address Utf8String
    ∷ named (codes "O") (codes "organizationName") types.organization_name Utf8String
    ∷ named (codes "OU") (codes "organizationalUnitName") types.organizational_unit_name Utf8String
    ∷ named (codes "TITLE") (codes "title") types.title Utf8String
    ∷ named (codes "DESCRIPTION") (codes "description") types.description Utf8String
    ∷ named (codes "POSTALCODE") (codes "postalCode") types.postal_code Utf8String
    ∷ named (codes "NAME") (codes "name") types.name Utf8String
    ∷ named (codes "GIVENNAME") (codes "givenName") types.given_name Utf8String
    ∷ named (codes "INITIALS") (codes "initials") types.initials Utf8String
    ∷ named (codes "GENERATIONQUALIFIER") (codes "generationQualifier") types.generation_qualifier Utf8String
    ∷ named (codes "DNQUALIFIER") (codes "dnQualifier") types.dn_qualifier Utf8String
    ∷ named (codes "PSEUDONYM") (codes "pseudonym") types.pseudonym Utf8String
    ∷ named (codes "UID") (codes "userId") types.user_id Utf8String
    ∷ named (codes "DC") (codes "domainComponent") types.domain_component Ia5String
    ∷ named (codes "EMAILADDRESS") (codes "emailAddress") types.email_address Ia5String
    ∷ []
