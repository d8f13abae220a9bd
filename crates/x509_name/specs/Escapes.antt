-- Escapes in the text of a value: what a text stands for (RFC 4514 section 3), and what is printed (section 2.4).
use Rattle.std.specs.Prelude.{◌≡◌, ◌≢◌, ℕ, ◌+◌, ◌*◌, ◌/◌, ◌%◌, Bool, true, false, ◌&&◌, ◌||◌, nat_eq, nat_lt, List, [], ◌∷◌, map, codes, if◌then◌else◌}
use Rattle.std.specs.List.{AllByRecursion, flat_map, list_any}
use Rattle.std.specs.Char.{digit_value}
use Rattle.std.specs.Fmt.{digit_glyph}

-- ---- what a text stands for

abbrev pub backslash : ℕ
backslash = 92

-- the characters that a backslash escapes: itself and those that RFC 4514 section 3 calls special, which are its escaped ones, the
-- space, the number sign and the equals sign
abbrev pub is_special : ℕ → Bool
is_special char = list_any (λ special. nat_eq char special) (codes " \"#=\\+,;<>")

-- 0 to 9, A to F, a to f
abbrev pub is_hex : ℕ → Bool
is_hex char = nat_lt (digit_value char) 16

-- a byte for itself, a special character behind a backslash, or a byte by its two hex digits behind a backslash
pub data Item : Type 0 where
  Plain : ℕ → Item
  Special : ℕ → Item
  Pair : ℕ → ℕ → Item

abbrev pub IsItem : Item → Type 0
IsItem (Plain byte) = byte ≢ backslash
IsItem (Special char) = is_special char ≡ true
IsItem (Pair high low) = (is_hex high ≡ true) × (is_hex low ≡ true)

abbrev pub item_text : Item → List ℕ
item_text (Plain byte) = byte ∷ []
item_text (Special char) = backslash ∷ char ∷ []
item_text (Pair high low) = backslash ∷ high ∷ low ∷ []

abbrev pub item_byte : Item → ℕ
item_byte (Plain byte) = byte
item_byte (Special char) = char
item_byte (Pair high low) = 16 * digit_value high + digit_value low

-- the text is items joined, and the bytes are what these give
abbrev pub Unescapes : List ℕ → List ℕ → Type 0
Unescapes text bytes =
    (items : List Item) × AllByRecursion IsItem items × (text ≡ flat_map item_text items) × (bytes ≡ map item_byte items)

-- ---- what is printed

-- these stand for themselves nowhere
abbrev pub is_always_escaped : ℕ → Bool
is_always_escaped byte = list_any (λ special. nat_eq byte special) (codes "\"+,;<>\\")

-- 00 to 1F, and 7F
abbrev pub is_control : ℕ → Bool
is_control byte = nat_lt byte 32 || nat_eq byte 127

abbrev pub is_empty : List ℕ → Bool
is_empty [] = true
is_empty (byte ∷ bytes) = false

-- the item that is printed of a byte, which is escaped also where its place asks for it
abbrev pub item_of : Bool → ℕ → Item
item_of by_its_place byte =
    if is_control byte then Pair (digit_glyph false (byte / 16)) (digit_glyph false (byte % 16))
    else if is_always_escaped byte || by_its_place then Special byte
    else Plain byte

-- at the end a space is escaped
abbrev pub further_items : List ℕ → List Item
further_items [] = []
further_items (byte ∷ bytes) = item_of (nat_eq byte 32 && is_empty bytes) byte ∷ further_items bytes

-- at the front a space and a number sign are
abbrev pub items_of : List ℕ → List Item
items_of [] = []
items_of (byte ∷ bytes) = item_of (nat_eq byte 32 || nat_eq byte 35) byte ∷ further_items bytes

unfoldable pub escaped : List ℕ → List ℕ
escaped bytes = flat_map item_text (items_of bytes)
