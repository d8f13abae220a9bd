-- UniversalString: the characters of ISO/IEC 10646 in four octets each, the most significant first (X.680 41, X.690 8.23.7).
use Rattle.std.specs.Prelude.{ℕ, ◌+◌, ◌*◌, Bool, true, false, ◌&&◌, ◌||◌, nat_lt, nat_le, List, [], ◌∷◌, Option, Some, None, encode_utf8_all, if◌then◌else◌}

-- a character, which is not above 10FFFF and no half of a surrogate pair
unfoldable pub is_universal_char : ℕ → Bool
is_universal_char char = nat_lt char 0xD800 || (nat_le 0xE000 char && nat_lt char 0x110000)

-- the number of four octets
abbrev pub char_of : ℕ → ℕ → ℕ → ℕ → ℕ
char_of first second third fourth = 16777216 * first + 65536 * second + 256 * third + fourth

-- the characters whose octets they are
abbrev pub universal_chars : List ℕ → List ℕ
universal_chars (first ∷ second ∷ third ∷ fourth ∷ octets) = char_of first second third fourth ∷ universal_chars octets
universal_chars _ = []

-- whether the octets are those of characters
abbrev pub is_universal : List ℕ → Bool
is_universal [] = true
is_universal (first ∷ []) = false
is_universal (first ∷ second ∷ []) = false
is_universal (first ∷ second ∷ third ∷ []) = false
is_universal (first ∷ second ∷ third ∷ fourth ∷ octets) = is_universal_char (char_of first second third fourth) && is_universal octets

-- the text of a UniversalString with these content octets
unfoldable pub universal_text : List ℕ → Option (List ℕ)
universal_text octets = if is_universal octets then Some (encode_utf8_all (universal_chars octets)) else None
