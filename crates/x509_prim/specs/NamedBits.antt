-- Sets of named bits as BIT STRINGs (X.680 22.7, X.690 8.6, 11.2). A set is a number whose bit n says whether the named bit
-- n is there.
use Rattle.std.specs.Prelude.{◌≡◌, ℕ, ◌+◌, ◌*◌, ◌/◌, ◌%◌, ◌<◌, Bool, true, ◌&&◌, not, nat_eq, nat_lt, List, [], ◌∷◌, Option, Some, None, Result, Ok, Err, if◌then◌else◌}
use Rattle.std.specs.Int.{bit_at}
use Rattle.std.specs.Int.RustNames.{bit_and}
use Rattle.bitflags.specs.Sets.{known_bits}
use Rattle.x509_der.specs.declared.error.ErrorKind.{ErrorKind}
use Rattle.x509_der.specs.declared.error.ErrorKind.TheVariants.{Malformed, Value}
use Rattle.x509_der.specs.declared.tag.Tag.TheVariants.{BitString}
use Rattle.x509_der.specs.Form.{Form, Contents, universal}
use Rattle.x509_der.specs.Round.{Round, round_contents, round_writing}
use Rattle.x509_der.specs.Writing.{Written, Writing, respelling}

-- ---- contents

-- The octet of eight named bits: the first of them is bit 8, the highest, and the last is bit 1 (X.690 8.6.2.1).
unfoldable pub turned : ℕ → ℕ
turned bits = 128 * bit_at bits 0 + 64 * bit_at bits 1 + 32 * bit_at bits 2 + 16 * bit_at bits 3 + 8 * bit_at bits 4 + 4 * bit_at bits 5 + 2 * bit_at bits 6 + bit_at bits 7

-- how many bits of an octet come after the last of its named bits, which are the zero bits above the highest one
unfoldable pub unused_after : ℕ → ℕ
unused_after bits =
    if nat_lt bits 2 then 7 else (if nat_lt bits 4 then 6 else (if nat_lt bits 8 then 5 else (if nat_lt bits 16 then 4
    else (if nat_lt bits 32 then 3 else (if nat_lt bits 64 then 2 else (if nat_lt bits 128 then 1 else 0))))))

-- The content of a set of bits below 16: no octet for the empty set, and else as many octets as there must be for the last
-- bit of the set, so that no zero bits end the string (X.690 11.2.2). In front stands how many bits are unused.
unfoldable pub set_octets : ℕ → List ℕ
set_octets set =
    if nat_eq set 0 then 0 ∷ []
    else (if nat_lt set 256 then unused_after set ∷ turned set ∷ []
    else unused_after (set / 256) ∷ turned (set % 256) ∷ turned (set / 256) ∷ [])

-- the last octet ends with the last bit of its set
abbrev pub ends : ℕ → ℕ → Bool
ends unused octet = nat_lt octet 256 && (not (nat_eq (turned octet) 0) && nat_eq unused (unused_after (turned octet)))

-- the set of a content: a tool, tied to set_octets by its laws
unfoldable pub set_at : List ℕ → Option ℕ
set_at [] = None
set_at (unused ∷ []) = if nat_eq unused 0 then Some 0 else None
set_at (unused ∷ octet ∷ []) = if ends unused octet then Some (turned octet) else None
set_at (unused ∷ first ∷ last ∷ []) = if nat_lt first 256 && ends unused last then Some (turned first + 256 * turned last) else None
set_at (unused ∷ first ∷ second ∷ third ∷ octets) = None

-- ---- sets whose bits have names

-- each bit of the set has a name in the table (our own rule)
abbrev pub has_names : List (List ℕ × ℕ) → ℕ → Bool
has_names table set = nat_eq (bit_and (known_bits table) set) set

abbrev pub named : List (List ℕ × ℕ) → Option ℕ → Result ℕ ErrorKind
named table None = Err Malformed
named table (Some set) = if has_names table set then Ok set else Err Malformed

unfoldable pub named_reading : List (List ℕ × ℕ) → List ℕ → Result ℕ ErrorKind
named_reading table bytes = named table (set_at bytes)

-- the contents of sets of which each bit has a name
abbrev pub named_contents : List (List ℕ × ℕ) → Contents ℕ
named_contents table = record {
  octets = set_octets;
  good = λ set. (set < 65536) × (has_names table set ≡ true);
  reading = named_reading table;
}

-- a set with a bit without a name is refused
abbrev pub named_written : List (List ℕ × ℕ) → ℕ → Written ℕ
named_written table set = record { value = set; refusal = if has_names table set then None else Some Value }

-- ---- values of a flag type

-- The contents of a flag type: each of its values is a set and nothing else, and table has its names.
abbrev pub flag_contents : {T : Type 0} → Round T ℕ → List (List ℕ × ℕ) → Contents T
flag_contents round table = round_contents round (named_contents table)

abbrev pub flag_bits : {T : Type 0} → Round T ℕ → List (List ℕ × ℕ) → Form T
flag_bits round table = universal BitString (flag_contents round table)

abbrev pub flag_writing : {T : Type 0} → Round T ℕ → List (List ℕ × ℕ) → Writing T
flag_writing round table = round_writing round (respelling (named_written table))
