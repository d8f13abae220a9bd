-- What the bytes of a type give: the encoding of the value that they spell, or why there is none.
use Rattle.std.specs.Prelude.{◌≡◌, ◌<◌, ◌≤◌, ◌⊎◌, ℕ, List, length, Result, Ok, Err}
use Rattle.x509_der.specs.declared.error.ErrorKind.{ErrorKind}
use Rattle.x509_der.specs.declared.error.ErrorKind.TheVariants.{Overlength, Malformed}
use Rattle.x509_der.specs.Element.{limit}
use Rattle.x509_der.specs.Outcome.{IsRefusal}
use Rattle.x509_der.specs.Form.{Form, Spells, whole_reading}
use Rattle.x509_der.specs.Writing.{Writing, writes, IsWritable, IsUnwritable, written_spelling}

-- Why bytes are refused: they are too long; or they spell no value, as Malformed or as a refusal of the type's own, and which of them is said by
-- reading. refuses are the errors of the type's own in reading.
abbrev pub IsRefused : {X : Type 0} → Form X → (ErrorKind → Type 0) → List ℕ → ErrorKind → Type 0
IsRefused {X} form refuses bytes e =
    ((limit < length bytes) × (e ≡ Overlength))
    ⊎ ((length bytes ≤ limit) × ((e ≡ Malformed) ⊎ refuses e) × ((value : X) → Spells form value bytes → ⊥) × IsRefusal e (whole_reading form.reading bytes))

-- The encoding is that of the value which the bytes spell. An error comes where these are refused, or where the value can't be written.
unfoldable pub Reencodes : {X : Type 0} → Form X → Writing X → (ErrorKind → Type 0) → List ℕ → Result (List ℕ) ErrorKind → Type 0
Reencodes {X} form writing refuses bytes (Ok encoding) =
    (value : X) × Spells form value bytes × IsWritable form (writes writing value) limit × (encoding ≡ written_spelling form (writes writing value))
Reencodes {X} form writing refuses bytes (Err e) =
    IsRefused form refuses bytes e ⊎ ((value : X) × Spells form value bytes × IsUnwritable form (writes writing value) limit e)
