-- BIT STRING: a count of unused bits, and the bits in octets (X.690 8.6, 11.2).
use Rattle.std.specs.Prelude.{◌≡◌, ℕ, ◌<◌, ◌%◌, ◌^◌, Bool, true, false, ◌&&◌, ◌||◌, nat_eq, nat_lt, List, [], ◌∷◌, ◌++◌, replicate, Result, Ok, Err, if◌then◌else◌}
use Rattle.std.specs.Int.{bit_at}
use Rattle.std.specs.List.{flat_map}
use Rattle.x509_der.specs.declared.error.ErrorKind.{ErrorKind}
use Rattle.x509_der.specs.declared.error.ErrorKind.TheVariants.{Malformed}
use Rattle.x509_der.specs.declared.tag.Tag.TheVariants as tags
use Rattle.x509_der.specs.Form.{Form, Contents, universal}

-- the octets in which the bits stand, and how many bits of the last octet are unused
pub record BitParts : Type 0 where
  pub unused : ℕ
  pub octets : List ℕ

abbrev pub parts_of : ℕ → List ℕ → BitParts
parts_of unused octets = record { unused = unused; octets = octets }

-- ---- the bits

abbrev pub is_one : ℕ → ℕ → Bool
is_one octet place = nat_eq (bit_at octet place) 1

-- the bits of an octet, bit 8 first and bit 1 last (X.690 6.2)
unfoldable pub octet_bits : ℕ → List Bool
octet_bits octet = is_one octet 7 ∷ is_one octet 6 ∷ is_one octet 5 ∷ is_one octet 4 ∷ is_one octet 3 ∷ is_one octet 2 ∷ is_one octet 1 ∷ is_one octet 0 ∷ []

-- The bits stand in the octets one after another, and are followed by as many zero bits as are unused, of which there
-- are at most seven (X.690 8.6.2, 11.2.1).
pub record HasBits (bits : List Bool) (parts : BitParts) : Type 0 where
  pub few : parts.unused < 8
  pub stand : flat_map octet_bits parts.octets ≡ bits ++ replicate parts.unused false

-- ---- the content

abbrev pub last_octet : List ℕ → ℕ
last_octet [] = 0
last_octet (octet ∷ []) = octet
last_octet (octet ∷ next ∷ octets) = last_octet (next ∷ octets)

abbrev pub has_octets : List ℕ → Bool
has_octets [] = false
has_octets (octet ∷ octets) = true

-- at most seven bits are unused, none where there is no octet, and they are zero bits of the last octet
unfoldable pub is_padded : BitParts → Bool
is_padded parts = nat_eq parts.unused 0 || (nat_lt parts.unused 8 && (has_octets parts.octets && nat_eq (last_octet parts.octets % 2 ^ parts.unused) 0))

unfoldable pub bit_string_reading : List ℕ → Result BitParts ErrorKind
bit_string_reading [] = Err Malformed
bit_string_reading (unused ∷ octets) = if is_padded (parts_of unused octets) then Ok (parts_of unused octets) else Err Malformed

-- the count of unused bits is the first octet of the content (X.690 8.6.2.2)
abbrev pub bit_string_contents : Contents BitParts
bit_string_contents = record {
  octets = λ parts. parts.unused ∷ parts.octets;
  good = λ parts. is_padded parts ≡ true;
  reading = bit_string_reading;
}

abbrev pub bit_string : Form BitParts
bit_string = universal tags.BitString bit_string_contents
