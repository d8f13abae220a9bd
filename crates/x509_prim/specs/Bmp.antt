-- BMPString: the characters in two octets each, the high octet first (X.680 41.15, X.690 8.23.8).
use Rattle.std.specs.Prelude.{ℕ, ◌+◌, ◌*◌, ◌/◌, ◌%◌, Bool, true, false, ◌&&◌, ◌||◌, nat_lt, nat_le, List, [], ◌∷◌}
use Rattle.std.specs.List.{flat_map}

-- a character of the basic multilingual plane, which is not above FFFF and no half of a surrogate pair
unfoldable pub is_bmp_char : ℕ → Bool
is_bmp_char char = nat_lt char 0xD800 || (nat_le 0xE000 char && nat_lt char 0x10000)

abbrev pub char_octets : ℕ → List ℕ
char_octets char = char / 256 ∷ (char % 256) ∷ []

-- the octets of characters
abbrev pub bmp_octets : List ℕ → List ℕ
bmp_octets chars = flat_map char_octets chars

-- the characters whose octets they are
abbrev pub bmp_chars : List ℕ → List ℕ
bmp_chars [] = []
bmp_chars (high ∷ []) = []
bmp_chars (high ∷ low ∷ octets) = (256 * high + low) ∷ bmp_chars octets

-- whether the octets are those of characters of the plane
abbrev pub is_bmp : List ℕ → Bool
is_bmp [] = true
is_bmp (high ∷ []) = false
is_bmp (high ∷ low ∷ octets) = (nat_lt low 256 && is_bmp_char (256 * high + low)) && is_bmp octets
