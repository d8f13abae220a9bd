-- The text types as forms: the content octets are those of the characters (X.690 8.23, X.680 41).
use Rattle.std.specs.Prelude.{ℕ, List}
use Rattle.std.specs.List.{list_all}
use Rattle.std.specs.Str.{is_utf8}
use Rattle.x509_der.specs.declared.error.ErrorKind.{ErrorKind}
use Rattle.x509_der.specs.declared.tag.Tag.TheVariants as tags
use Rattle.x509_der.specs.Form.{Form, IsForm}
use Rattle.x509_der.specs.Tested.{tested, tested_lawful}
use Rattle.x509_prim.specs.Alphabet.{is_printable, is_ia5, is_visible}
use Rattle.x509_prim.specs.Bmp.{is_bmp}

abbrev pub printable_string : Form (List ℕ)
printable_string = tested tags.PrintableString (list_all is_printable)

-- TeletexString is read and written in its characters up to 7F alone
abbrev pub teletex_string : Form (List ℕ)
teletex_string = tested tags.TeletexString (list_all is_ia5)

abbrev pub ia5_string : Form (List ℕ)
ia5_string = tested tags.Ia5String (list_all is_ia5)

abbrev pub visible_string : Form (List ℕ)
visible_string = tested tags.VisibleString (list_all is_visible)

abbrev pub utf8_string : Form (List ℕ)
utf8_string = tested tags.Utf8String is_utf8

abbrev pub bmp_string : Form (List ℕ)
bmp_string = tested tags.BmpString is_bmp

pub printable_string_lawful : {R : ErrorKind → Type 0} → IsForm R printable_string
printable_string_lawful = tested_lawful tags.PrintableString (list_all is_printable)

pub teletex_string_lawful : {R : ErrorKind → Type 0} → IsForm R teletex_string
teletex_string_lawful = tested_lawful tags.TeletexString (list_all is_ia5)

pub ia5_string_lawful : {R : ErrorKind → Type 0} → IsForm R ia5_string
ia5_string_lawful = tested_lawful tags.Ia5String (list_all is_ia5)

pub visible_string_lawful : {R : ErrorKind → Type 0} → IsForm R visible_string
visible_string_lawful = tested_lawful tags.VisibleString (list_all is_visible)

pub utf8_string_lawful : {R : ErrorKind → Type 0} → IsForm R utf8_string
utf8_string_lawful = tested_lawful tags.Utf8String is_utf8

pub bmp_string_lawful : {R : ErrorKind → Type 0} → IsForm R bmp_string
bmp_string_lawful = tested_lawful tags.BmpString is_bmp
