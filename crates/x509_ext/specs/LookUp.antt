-- Look-ups among extensions: those with an OID, and what their octets are decoded to (RFC 5280 4.2).
use Rattle.std.specs.Prelude.{◌≡◌, ◌<◌, ◌≤◌, ◌⊎◌, ℕ, Bool, List, [], ◌∷◌, length, filter, Option, Some, None, Result, Ok, Err, IfOk, IfErr, IsErrAnd, bytes_eq}
use Rattle.x509_der.specs.declared.error.Error.{Error}
use Rattle.x509_der.specs.declared.error.ErrorKind.{ErrorKind}
use Rattle.x509_der.specs.declared.error.ErrorKind.TheVariants.{Memory, Overlength, Malformed, Failed}
use Rattle.x509_der.specs.Element.{limit}
use Rattle.x509_der.specs.Outcome.{Gives}
use Rattle.x509_der.specs.Form.{Form, Spells, whole_reading}
use Rattle.x509_ext.specs.declared.extension.Extension.{Extension}

-- the extensions, none where the list is left out
abbrev pub members : Option (List Extension) → List Extension
members None = []
members (Some extensions) = extensions

-- those whose identifier has these content octets, in their order
abbrev pub with_oid : List ℕ → List Extension → List Extension
with_oid oid extensions = filter (λ e. bytes_eq e.extn_id oid) extensions

-- two or more have one identifier, which RFC 5280 4.2 forbids
abbrev pub IsRepeated : List Extension → Type 0
IsRepeated extensions = (oid : List ℕ) × (2 ≤ length (with_oid oid extensions))

-- What the decoder of a type may answer on bytes: the one value that they spell; Overlength exactly over the limit; else
-- Malformed, or a refusal of the type's own, exactly where they spell none, and which of them is said by reading; else
-- Memory, where reading the type wants it.
pub record Decodes {T : Type 0} (form : Form T) (refuses : ErrorKind → Type 0) (wants_memory : Type 0) (bytes : List ℕ) (answer : Result T Error) : Type 0 where
  pub found : IfOk answer (λ value. Spells form value bytes)
  pub overlength : limit < length bytes → IsErrAnd answer (λ e. e.kind ≡ Overlength)
  pub refused : length bytes ≤ limit → IfErr answer (λ e. ((e.kind ≡ Memory) × wants_memory) ⊎ ((e.kind ≡ Malformed) ⊎ refuses e.kind))
  pub only : length bytes ≤ limit → (value : T) → Spells form value bytes → IfErr answer (λ e. (e.kind ≡ Memory) × wants_memory)
  pub value : (value : T) → Spells form value bytes → IfOk answer (λ found. found ≡ value)
  pub which : length bytes ≤ limit → Gives answer (whole_reading form.reading bytes)

-- the same on an extension's octets; the value comes with the extension's criticality
abbrev pub DecodesPayload : {T : Type 0} → Form T → (ErrorKind → Type 0) → Type 0 → Extension → Result (Bool × T) Error → Type 0
DecodesPayload form refuses wants_memory extension (Ok found) = (found.0 ≡ extension.critical) × Decodes form refuses wants_memory extension.extn_value (Ok found.1)
DecodesPayload form refuses wants_memory extension (Err e) = Decodes form refuses wants_memory extension.extn_value (Err e)

-- What a look-up answers, where these have the identifier: None exactly for none; what the decoder answers on the one;
-- Failed exactly for two or more.
abbrev pub Finds : {T : Type 0} → Form T → (ErrorKind → Type 0) → Type 0 → List Extension → Result (Option (Bool × T)) Error → Type 0
Finds form refuses wants_memory [] answer = answer ≡ Ok None
Finds form refuses wants_memory (extension ∷ []) (Ok None) = ⊥
Finds form refuses wants_memory (extension ∷ []) (Ok (Some found)) = DecodesPayload form refuses wants_memory extension (Ok found)
Finds form refuses wants_memory (extension ∷ []) (Err e) = DecodesPayload form refuses wants_memory extension (Err e)
Finds form refuses wants_memory (first ∷ second ∷ others) answer = IsErrAnd answer (λ e. e.kind ≡ Failed)
