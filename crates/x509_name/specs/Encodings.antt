-- The encoding of what a text says.
use Rattle.std.specs.Prelude.{◌≡◌, ◌<◌, ◌≤◌, ◌⊎◌, ℕ, List, length}
use Rattle.x509_der.specs.Element.{limit}
use Rattle.x509_der.specs.declared.error.ErrorKind.{ErrorKind}
use Rattle.x509_der.specs.declared.error.ErrorKind.TheVariants.{Overlength}
use Rattle.x509_der.specs.Form.{Form, spelling}

-- the bytes are the encoding of a value that the text reads as
abbrev pub SaysEncoding : {X : Type 0} → Form X → (List ℕ → X → Type 0) → List ℕ → List ℕ → Type 0
SaysEncoding {X} form reads text bytes = (value : X) × reads text value × (bytes ≡ spelling form value) × (length bytes ≤ limit)

-- the text is refused so, or reads as a value whose encoding is over the limit
abbrev pub EncodingRefused : {X : Type 0} → Form X → (List ℕ → X → Type 0) → (List ℕ → ErrorKind → Type 0) → List ℕ → ErrorKind → Type 0
EncodingRefused {X} form reads refused text kind =
    refused text kind ⊎ ((kind ≡ Overlength) × (value : X) × reads text value × (limit < length (spelling form value)))
