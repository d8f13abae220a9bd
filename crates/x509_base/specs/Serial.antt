-- SerialNumber: INTEGER, whose content octets a profile checks in reading (RFC 5280 4.1.2.2).
use Rattle.std.specs.Prelude.{ℕ, ◌/◌, ◌%◌, List, [], ◌∷◌, map, true, Result}
use Rattle.std.specs.Fmt.{digit_glyph}
use Rattle.std.specs.List.{join_with_byte}
use Rattle.x509_der.specs.declared.error.ErrorKind.{ErrorKind}
use Rattle.x509_der.specs.declared.tag.Tag.TheVariants as tags
use Rattle.x509_der.specs.Form.{Form, IsForm, Contents, IsContents, universal}
use Rattle.x509_der.specs.FormLaws.{universal_lawful}
use Rattle.x509_prim.specs.Integer.{integer_contents, with_sign, without_zeros}
use Rattle.x509_prim.specs.IntegerLaws.{integer_contents_lawful}
use Rattle.x509_base.specs.Checked.{checked, CheckRefuses, checked_lawful}

-- ---- the grammar

-- a value is seen as its content octets
abbrev pub serial_number_contents : (List ℕ → Result Unit ErrorKind) → Contents (List ℕ)
serial_number_contents check = checked check integer_contents

pub serial_number_contents_lawful : (check : List ℕ → Result Unit ErrorKind) → IsContents (CheckRefuses check) (serial_number_contents check)
serial_number_contents_lawful check = checked_lawful check integer_contents integer_contents_lawful

abbrev pub serial_number : (List ℕ → Result Unit ErrorKind) → Form (List ℕ)
serial_number check = universal tags.Integer (serial_number_contents check)

pub serial_number_lawful : (check : List ℕ → Result Unit ErrorKind) → IsForm (CheckRefuses check) (serial_number check)
serial_number_lawful check = universal_lawful tags.Integer (serial_number_contents check) (serial_number_contents_lawful check)

-- ---- numbers

-- The content octets of a number from 0 on, by its octets, most significant first: without zeros in front, but with one
-- zero where the first bit would be 1, which is the sign (X.690 8.3.2, 8.3.3).
abbrev pub number_content : List ℕ → List ℕ
number_content octets = with_sign (without_zeros octets)

-- ---- text

-- an octet as two hex digits, 0 to 9 and A to F, the high four bits first
abbrev pub hex_octet : ℕ → List ℕ
hex_octet octet = digit_glyph true (octet / 16) ∷ digit_glyph true (octet % 16) ∷ []

-- the octets in hex, joined by colons
unfoldable pub colon_hex : List ℕ → List ℕ
colon_hex octets = join_with_byte 58 (map hex_octet octets)
