use Rattle.x509_match.proofs.PlainValues.{printable_text, ia5_text, teletex_text, utf8_text}
use Rattle.x509_match.proofs.attribute.is_text.Goals as goal

pub returns-in-PrintableString : goal.returns-in-PrintableString
returns-in-PrintableString c plain = rw c.in-PrintableString.is (printable_text _ _ c.has_chars.ensures)

pub returns-in-Ia5String : goal.returns-in-Ia5String
returns-in-Ia5String c plain = rw c.in-Ia5String.is (ia5_text _ _ c.has_chars-in-Ia5String.ensures)

pub returns-in-Utf8String : goal.returns-in-Utf8String
returns-in-Utf8String c plain = let ascii = rw c.in-Utf8String.is at plain in rw c.in-Utf8String.is (ascii, utf8_text _ ascii)

pub returns-in-TeletexString : goal.returns-in-TeletexString
returns-in-TeletexString c plain = rw c.in-TeletexString.is (teletex_text _ _ c.has_chars-in-TeletexString.ensures)
