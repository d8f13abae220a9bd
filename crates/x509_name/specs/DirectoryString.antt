-- DirectoryString: PrintableString / TeletexString / UTF8String / BMPString (RFC 5280 4.1.2.4, appendix A.1)
use Rattle.std.specs.Prelude.{ℕ, Bool, true, false, List, [], Result, encode_utf8_all, refl}
use Rattle.x509_der.specs.declared.error.Error.{Error}
use Rattle.x509_der.specs.declared.error.ErrorKind.{ErrorKind}
use Rattle.x509_der.specs.Form.{Form, IsForm}
use Rattle.x509_der.specs.Cases.{Cases, ◌∥◌, ◌holds◌, none, CaseOf, choice, choice_lawful}
use Rattle.x509_der.specs.declared.any.Any.{Any}
use Rattle.x509_der.specs.ReadsElement.{ReadsElement}
use Rattle.x509_prim.specs.Bmp.{bmp_chars}
use Rattle.x509_prim.specs.Texts.{printable_string, teletex_string, utf8_string, bmp_string, printable_string_lawful, teletex_string_lawful, utf8_string_lawful, bmp_string_lawful}
use Rattle.x509_name.specs.declared.name.directory_string.DirectoryString.{DirectoryString}
use Rattle.x509_name.specs.declared.name.directory_string.DirectoryString.TheVariants.{PrintableString, TeletexString, Utf8String, BmpString}

-- ---- the grammar

abbrev pub directory_cases : Cases DirectoryString
directory_cases = PrintableString holds printable_string ∥ TeletexString holds teletex_string ∥ Utf8String holds utf8_string ∥ BmpString holds bmp_string ∥ none

abbrev pub directory_case : (v : DirectoryString) → CaseOf directory_cases v
directory_case (PrintableString text) = (0, (text, refl))
directory_case (TeletexString text) = (1, (text, refl))
directory_case (Utf8String text) = (2, (text, refl))
directory_case (BmpString octets) = (3, (octets, refl))

abbrev pub directory_string : Form DirectoryString
directory_string = choice directory_cases directory_case

pub directory_string_lawful : {R : ErrorKind → Type 0} → IsForm R directory_string
directory_string_lawful = choice_lawful directory_cases directory_case refl (
  (printable_string_lawful, λ x. refl),
  (
    (teletex_string_lawful, λ x. refl),
    (
      (utf8_string_lawful, λ x. refl),
      (
        (bmp_string_lawful, λ x. refl),
        tt,
      ),
    ),
  ),
)

-- ---- texts

-- the text, in UTF-8
abbrev pub text_of : DirectoryString → List ℕ
text_of (PrintableString text) = text
text_of (TeletexString text) = text
text_of (Utf8String text) = text
text_of (BmpString octets) = encode_utf8_all (bmp_chars octets)

-- the content where it is UTF-8 as it stands, and nothing of a BMPString
abbrev pub text_in_place : DirectoryString → List ℕ
text_in_place (PrintableString text) = text
text_in_place (TeletexString text) = text
text_in_place (Utf8String text) = text
text_in_place (BmpString octets) = []

-- whether it is a BMPString
abbrev pub is_bmp_string : DirectoryString → Bool
is_bmp_string (PrintableString text) = false
is_bmp_string (TeletexString text) = false
is_bmp_string (Utf8String text) = false
is_bmp_string (BmpString octets) = true

-- ---- elements

-- what an element may give as a string
abbrev pub ReadsDirectoryString : Any → Result DirectoryString Error → Type 0
ReadsDirectoryString = ReadsElement directory_string (Unit {0})
