-- The texts of relative distinguished names (RDNs) and of names (RFC 4514 sections 2.1, 2.2 and 3).
use Rattle.std.specs.Prelude.{◌≡◌, ◌≢◌, ◌⊎◌, ℕ, List, [], ◌∷◌, map, reverse}
use Rattle.std.specs.List.{AllByRecursion, AllZip, join_with_byte}
use Rattle.std.specs.List.Sorted.{IsStrictlySortedBy, IsPermutation}
use Rattle.x509_der.specs.declared.error.ErrorKind.{ErrorKind}
use Rattle.x509_der.specs.declared.error.ErrorKind.TheVariants.{SetDuplicate}
use Rattle.x509_der.specs.Set.{AreDistinct}
use Rattle.x509_name.specs.Text.{Reads}
use Rattle.x509_name.specs.TypeAndValue.{type_and_value_cmp}
use Rattle.x509_name.specs.declared.attr.type_and_value.AttributeTypeAndValue.{AttributeTypeAndValue}
use Rattle.x509_name.specs.Attributes.{attribute_text, AttributeRefused, ReadsBack}
use Rattle.x509_name.specs.Encodings.{SaysEncoding, EncodingRefused}
use Rattle.x509_name.specs.Parts.{Joined}
use Rattle.x509_name.specs.Refusals.{FirstRefused}
use Rattle.x509_name.specs.Names.{rdn_sequence}

-- ---- what is printed

-- the attributes in order, with a plus sign between each two
unfoldable pub rdn_text : List AttributeTypeAndValue → List ℕ
rdn_text rdn = join_with_byte 43 (map (λ a. attribute_text a.oid a.value) rdn)

-- from the last relative distinguished name to the first, with a comma between each two
unfoldable pub name_text : List (List AttributeTypeAndValue) → List ℕ
name_text name = join_with_byte 44 (map rdn_text (reverse name))

-- ---- what is read

-- parts at plus signs that read as attributes, whose set it is
pub record RdnReads (text : List ℕ) (rdn : List AttributeTypeAndValue) : Type 0 where
  pub parts : List (List ℕ)
  pub attributes : List AttributeTypeAndValue
  pub cut : Joined 43 parts text
  pub read : AllZip Reads parts attributes
  pub members : IsPermutation attributes rdn
  pub sorted : IsStrictlySortedBy type_and_value_cmp rdn

-- the empty text is the empty name; any other is parts at commas that read as relative distinguished names
abbrev pub NameReads : List ℕ → List (List AttributeTypeAndValue) → Type 0
NameReads [] name = name ≡ []
NameReads (byte ∷ text) name = (parts : List (List ℕ)) × Joined 44 parts (byte ∷ text) × AllZip RdnReads parts (reverse name)

-- ---- what is refused

-- the leftmost part that doesn't read as an attribute is refused; where all of them do, two of the attributes are equal
pub record RdnRefused (text : List ℕ) (kind : ErrorKind) : Type 0 where
  pub parts : List (List ℕ)
  pub cut : Joined 43 parts text
  pub refused : FirstRefused Reads AttributeRefused parts kind
      ⊎ ((attributes : List AttributeTypeAndValue) × AllZip Reads parts attributes × (AreDistinct attributes → ⊥) × (kind ≡ SetDuplicate))

-- the leftmost part that doesn't read as a relative distinguished name is refused
pub record NameRefused (text : List ℕ) (kind : ErrorKind) : Type 0 where
  pub some : text ≢ []
  pub parts : List (List ℕ)
  pub cut : Joined 44 parts text
  pub refused : FirstRefused RdnReads RdnRefused parts kind

-- ---- what is encoded

-- the bytes are the encoding of the name that the text reads as
abbrev pub NameEncodes : List ℕ → List ℕ → Type 0
NameEncodes text bytes = SaysEncoding rdn_sequence NameReads text bytes

abbrev pub NameNotEncoded : List ℕ → ErrorKind → Type 0
NameNotEncoded text kind = EncodingRefused rdn_sequence NameReads NameRefused text kind

-- ---- what reads back

-- Relative distinguished names that read back from their text: one attribute at least, each of which does, in the order of a set.
pub record RdnReadsBack (rdn : List AttributeTypeAndValue) : Type 0 where
  pub some : rdn ≢ []
  pub each : AllByRecursion (λ a. ReadsBack a.oid a.value) rdn
  pub sorted : IsStrictlySortedBy type_and_value_cmp rdn

abbrev pub NameReadsBack : List (List AttributeTypeAndValue) → Type 0
NameReadsBack name = AllByRecursion RdnReadsBack name
