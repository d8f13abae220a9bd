-- The texts of character strings, in UTF-8 (X.680 41, X.690 8.23).
use Rattle.std.specs.Prelude.{◌≡◌, ◌<◌, ◌≤◌, ◌⊎◌, ℕ, nat_eq, nat_le, Bool, true, ◌&&◌, ◌||◌, List, length, encode_utf8_all, Option, Some, None, Result, Ok, Err, if◌then◌else◌}
use Rattle.std.proofs.Common.{arith}
use Rattle.std.proofs.lemmas.Bool.Decides.{nat_tests}
use Rattle.std.specs.List.{list_all}
use Rattle.std.specs.Str.{is_utf8}
use Rattle.x509_c_calls.specs.Universal.{universal_text}
use Rattle.x509_der.specs.Any.{any}
use Rattle.x509_der.specs.Element.{limit}
use Rattle.x509_der.specs.Form.{Spells}
use Rattle.x509_der.specs.declared.any.Any.{Any}
use Rattle.x509_der.specs.declared.error.ErrorKind.{ErrorKind}
use Rattle.x509_der.specs.declared.error.ErrorKind.TheVariants.{Overlength, Malformed}
use Rattle.x509_der.specs.declared.tag.Tag.{Tag}
use Rattle.x509_der.specs.declared.tag.Tag.TheVariants.{Utf8String, NumericString, PrintableString, TeletexString, Ia5String, VisibleString, UniversalString, BmpString}
use Rattle.x509_prim.specs.Alphabet.{is_ia5, is_printable, is_visible}
use Rattle.x509_prim.specs.Bmp.{bmp_chars, is_bmp}

-- NumericString: the digits and the space (X.680 41.2, Table 9)
unfoldable pub is_numeric : ℕ → Bool
is_numeric char = (nat_le 0x30 char && nat_le char 0x39) || nat_eq char 0x20

pub numeric_ascii : (char : ℕ) → is_numeric char ≡ true → char < 0x80
unfolding is_numeric
numeric_ascii char h = grind (arith, nat_tests)

-- octets that are the text, where they are allowed
unfoldable pub allowed : (List ℕ → Bool) → List ℕ → Option (List ℕ)
allowed may octets = if may octets then Some octets else None

-- the text of a string whose content octets are it in UTF-8; a TeletexString is read in its characters up to 7F alone
abbrev pub plain_text : Tag → List ℕ → Option (List ℕ)
plain_text Utf8String octets = allowed is_utf8 octets
plain_text NumericString octets = allowed (list_all is_numeric) octets
plain_text PrintableString octets = allowed (list_all is_printable) octets
plain_text TeletexString octets = allowed (list_all is_ia5) octets
plain_text Ia5String octets = allowed (list_all is_ia5) octets
plain_text VisibleString octets = allowed (list_all is_visible) octets
plain_text _ octets = None

-- the text of a BMPString, whose characters have two octets each
unfoldable pub bmp_text : List ℕ → Option (List ℕ)
bmp_text octets = if is_bmp octets then Some (encode_utf8_all (bmp_chars octets)) else None

-- the text of a string with this tag and these content octets
abbrev pub text_in : Tag → List ℕ → Option (List ℕ)
text_in BmpString octets = bmp_text octets
text_in UniversalString octets = universal_text octets
text_in tag octets = plain_text tag octets

-- the text, or Malformed where there is none
abbrev pub IsText : Option (List ℕ) → Result (List ℕ) ErrorKind → Type 0
IsText found (Ok text) = found ≡ Some text
IsText found (Err e) = (e ≡ Malformed) × (found ≡ None)

-- the text of the string that the bytes are; Overlength where they are too long, and else Malformed where they are no string that has a text
abbrev pub IsStringText : List ℕ → Result (List ℕ) ErrorKind → Type 0
IsStringText bytes (Ok text) = (it : Any) × Spells any it bytes × (text_in it.tag it.value ≡ Some text)
IsStringText bytes (Err e) =
    ((limit < length bytes) × (e ≡ Overlength))
    ⊎ ((length bytes ≤ limit) × (e ≡ Malformed) × ((it : Any) → Spells any it bytes → text_in it.tag it.value ≡ None))
