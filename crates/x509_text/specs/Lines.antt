-- Lines of a document: a label and a text, as a text for people or as an object of JSON (RFC 8259).
use Rattle.std.specs.Prelude.{ℕ, ◌/◌, ◌%◌, Bool, false, ◌||◌, ◌&&◌, nat_eq, nat_lt, nat_le, List, [], ◌∷◌, ◌++◌, codes, encode_utf8, if◌then◌else◌}
use Rattle.std.specs.List.{flat_map}
use Rattle.std.specs.Str.{chars}
use Rattle.hex.specs.Hex.{encode_lower}
use Rattle.x509_text.specs.declared.line.Style.{Style}
use Rattle.x509_text.specs.declared.line.Style.TheVariants.{Text, Json}
use Rattle.x509_text.specs.declared.line.Depth.{Depth}
use Rattle.x509_text.specs.declared.line.Depth.TheVariants.{First, Second, Third, Fourth, Fifth, Sixth}
use Rattle.x509_text.specs.declared.line.Place.{Place}

-- ---- characters

-- What could end a line or turn the order of its characters round: the controls of Unicode (Cc), the separators of lines and of
-- paragraphs (Zl, Zp), and the marks of direction (Bidi_Control).
unfoldable pub is_hidden : ℕ → Bool
is_hidden char =
    (nat_lt char 0x20 || (nat_le 0x7F char && nat_lt char 0xA0))
    || ((nat_eq char 0x61C || (nat_le 0x200E char && nat_lt char 0x2010))
    || ((nat_le 0x2028 char && nat_lt char 0x202F) || (nat_le 0x2066 char && nat_lt char 0x206A)))

-- a byte as a backslash and its two hex digits (RFC 4514 section 2.4)
abbrev pub byte_text : ℕ → List ℕ
byte_text byte = codes "\\" ++ encode_lower (byte ∷ [])

-- whether a character stands behind a backslash: in JSON a quotation mark and a backslash do (RFC 8259 section 7)
abbrev pub is_quoted : Style → ℕ → Bool
is_quoted Text char = false
is_quoted Json char = nat_eq char 34 || nat_eq char 92

-- A hidden character: the bytes of its UTF-8 so, in JSON its four hex digits (RFC 8259 section 7), as it is below U+10000.
abbrev pub hidden_char : Style → ℕ → List ℕ
hidden_char Text char = flat_map byte_text (encode_utf8 char)
hidden_char Json char = codes "\\u" ++ encode_lower ((char / 256 % 256) ∷ (char % 256) ∷ [])

-- a character within its line
unfoldable pub shown_char : Style → ℕ → List ℕ
shown_char style char =
    if is_hidden char then hidden_char style char
    else if is_quoted style char then codes "\\" ++ encode_utf8 char
    else encode_utf8 char

-- a text of which no character ends the line or turns its order round
unfoldable pub shown : Style → List ℕ → List ℕ
shown style text = flat_map (shown_char style) (chars text)

-- ---- places

abbrev pub deeper : Depth → Depth
deeper First = Second
deeper Second = Third
deeper Third = Fourth
deeper Fourth = Fifth
deeper Fifth = Sixth
deeper Sixth = Sixth

-- two spaces for each line that it stands under
abbrev pub indent : Depth → List ℕ
indent First = codes ""
indent Second = codes "  "
indent Third = codes "    "
indent Fourth = codes "      "
indent Fifth = codes "        "
indent Sixth = codes "          "

abbrev pub digit : Depth → List ℕ
digit First = codes "0"
digit Second = codes "1"
digit Third = codes "2"
digit Fourth = codes "3"
digit Fifth = codes "4"
digit Sixth = codes "5"

-- the place of what belongs to a line
abbrev pub below : Place → Place
below at = record { style = at.style; depth = deeper at.depth }

-- ---- lines

-- a space and the text, or nothing where it is empty
abbrev pub after_label : List ℕ → List ℕ
after_label [] = []
after_label (byte ∷ bytes) = codes " " ++ shown Text (byte ∷ bytes)

-- `label: text` and a line feed, indented
abbrev pub text_line : Depth → List ℕ → List ℕ → List ℕ
text_line depth label text = indent depth ++ (label ++ (codes ":" ++ (after_label text ++ 10 ∷ [])))

-- the same as an object of JSON
abbrev pub json_entry : Depth → List ℕ → List ℕ → List ℕ
json_entry depth label text =
    codes "{\"depth\": " ++ (digit depth ++ (codes ", \"label\": \"" ++ (label ++ (codes "\", \"text\": \"" ++ (shown Json text ++ codes "\"}")))))

abbrev pub styled_line : Style → Depth → List ℕ → List ℕ → List ℕ
styled_line Text depth label text = text_line depth label text
styled_line Json depth label text = codes ",\n" ++ json_entry depth label text

-- the line with this label and this text
unfoldable pub line : Place → List ℕ → List ℕ → List ℕ
line at label text = styled_line at.style at.depth label text

-- the line where it is to be there
unfoldable pub line_where : Place → List ℕ → List ℕ → Bool → List ℕ
line_where at label text is_there = if is_there then line at label text else []

-- ---- documents

-- what a document begins with: the line that says what it is of
abbrev pub opening : Style → List ℕ → List ℕ
opening Text kind = text_line First (codes "type") kind
opening Json kind = codes "[" ++ json_entry First (codes "type") kind

-- what it ends with
abbrev pub closing : Style → List ℕ
closing Text = codes ""
closing Json = codes "\n]\n"

-- The first place of a document.
abbrev pub top : Style → Place
top style = record { style = style; depth = First }

-- a document is its opening, its lines and its closing
abbrev pub document : List ℕ → (Place → List ℕ) → Style → List ℕ
document kind lines style = opening style kind ++ (lines (top style) ++ closing style)
