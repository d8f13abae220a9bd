-- What calls from C answer that read a value, or write one.
use Rattle.std.specs.Prelude.{◌≡◌, ◌≤◌, ◌⊎◌, ℕ, List, length, Result, Ok, Err}
use Rattle.x509_c_calls.specs.declared.status.status.Status.{Status}
use Rattle.x509_c_calls.specs.declared.status.status.Status.TheVariants.{Done, NoRoom, Absent, Repeated, Faulty, Limit, Refused}
use Rattle.x509_der.specs.declared.error.ErrorKind.{ErrorKind}
use Rattle.x509_der.specs.declared.error.ErrorKind.TheVariants.{Memory}
use Rattle.x509_der.specs.Element.{limit}
use Rattle.x509_der.specs.Form.{Form, Spells}
use Rattle.x509_types.specs.Reencoding.{IsRefused}
use Rattle.x509_der.specs.Writing.{Written, IsWritable, IsUnwritable, written_spelling}

-- What a call answers that reads a value: the bytes spell one of which this holds, or they are refused, and then what the call was to
-- fill in is unchanged; memory may be refused where they aren't too long.
unfoldable pub Reads : {X : Type 0} → Form X → (ErrorKind → Type 0) → List ℕ → (X → Type 0) → Type 0 → Status → Type 0
Reads {X} form refuses bytes holds unchanged Done = (value : X) × Spells form value bytes × holds value
Reads form refuses bytes holds unchanged (Refused e) = (((e ≡ Memory) × (length bytes ≤ limit)) ⊎ IsRefused form refuses bytes e) × unchanged
Reads form refuses bytes holds unchanged NoRoom = ⊥
Reads form refuses bytes holds unchanged Absent = ⊥
Reads form refuses bytes holds unchanged Repeated = ⊥
Reads form refuses bytes holds unchanged Faulty = ⊥
Reads form refuses bytes holds unchanged Limit = ⊥

-- the same of a call that fills in nothing
abbrev pub Checks : {X : Type 0} → Form X → (ErrorKind → Type 0) → List ℕ → Status → Type 0
Checks form refuses bytes status = Reads form refuses bytes (λ value. Unit {0}) (Unit {0}) status

-- which bytes are written of a value, or why none are
unfoldable pub Encodes : {X : Type 0} → Form X → Written X → Result (List ℕ) ErrorKind → Type 0
Encodes form written (Ok bytes) = IsWritable form written limit × (bytes ≡ written_spelling form written)
Encodes form written (Err e) = IsUnwritable form written limit e
