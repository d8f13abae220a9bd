-- What the bytes of a name give as its text, and what the text of a name gives as its encoding.
use Rattle.std.specs.Prelude.{◌≡◌, ◌<◌, ◌≤◌, ◌⊎◌, ℕ, List, length, Result, Ok, Err}
use Rattle.x509_der.specs.declared.error.ErrorKind.{ErrorKind}
use Rattle.x509_der.specs.declared.error.ErrorKind.TheVariants.{Overlength, Malformed}
use Rattle.x509_der.specs.Element.{limit}
use Rattle.x509_der.specs.Form.{Spells, spelling}
use Rattle.x509_name.specs.declared.attr.type_and_value.AttributeTypeAndValue.{AttributeTypeAndValue}
use Rattle.x509_name.specs.Names.{name, rdn_sequence}
use Rattle.x509_name.specs.NameText.{name_text, NameReads, NameRefused}

-- The text of the name that the bytes spell. An error comes where they are too long, or where they spell none.
unfoldable pub PrintsName : List ℕ → Result (List ℕ) ErrorKind → Type 0
PrintsName bytes (Ok text) =
    (value : List (List AttributeTypeAndValue)) × Spells name value bytes × (text ≡ name_text value)
PrintsName bytes (Err e) =
    ((limit < length bytes) × (e ≡ Overlength))
    ⊎ ((length bytes ≤ limit) × (e ≡ Malformed) × ((value : List (List AttributeTypeAndValue)) → Spells name value bytes → ⊥))

-- The encoding of the name that a text says. An error comes where it says none, or where the encoding is too long.
unfoldable pub EncodesName : List ℕ → Result (List ℕ) ErrorKind → Type 0
EncodesName text (Ok encoding) =
    (value : List (List AttributeTypeAndValue)) × NameReads text value × (encoding ≡ spelling rdn_sequence value) × (length encoding ≤ limit)
EncodesName text (Err e) =
    NameRefused text e
    ⊎ ((e ≡ Overlength) × ((value : List (List AttributeTypeAndValue)) × NameReads text value × (limit < length (spelling rdn_sequence value))))
