-- Extensions that are made of their payloads.
use Rattle.std.specs.Prelude.{◌≡◌, ◌<◌, ◌≤◌, ◌⊎◌, ℕ, Bool, List, length, Result, Ok, Err}
use Rattle.x509_der.specs.declared.error.Error.{Error}
use Rattle.x509_der.specs.declared.error.ErrorKind.TheVariants.{Memory, Overlength}
use Rattle.x509_der.specs.Element.{limit}
use Rattle.x509_der.specs.Form.{Form, spelling}
use Rattle.x509_der.specs.Writing.{Written, IsWritable, IsUnwritable, written_spelling}
use Rattle.x509_prim.specs.OctetString.{octet_string}
use Rattle.x509_ext.specs.declared.extension.Extension.{Extension}

-- how long the OCTET STRING is that holds these octets
abbrev pub held_length : List ℕ → ℕ
held_length octets = length (spelling octet_string octets)

-- the extension under that identifier, critical or not, that holds what is written of a payload (RFC 5280 4.2)
abbrev pub extension_of : {X : Type 0} → List ℕ → Bool → Form X → Written X → Extension
extension_of oid critical form payload = record { extn_id = oid; critical = critical; extn_value = written_spelling form payload }

-- What a call that makes it answers: the extension; or out of memory; or the payload can't be written; or it can, and the
-- OCTET STRING that is to hold it is too long.
abbrev pub Makes : {X : Type 0} → List ℕ → Bool → Form X → Written X → Result Extension Error → Type 0
Makes oid critical form payload (Ok extension) =
    (extension ≡ extension_of oid critical form payload) × IsWritable form payload limit × (held_length (written_spelling form payload) ≤ limit)
Makes oid critical form payload (Err e) =
    (e.kind ≡ Memory) ⊎ (IsUnwritable form payload limit e.kind ⊎ (IsWritable form payload limit × (e.kind ≡ Overlength) × (limit < held_length (written_spelling form payload))))
