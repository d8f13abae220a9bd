-- What a call answers that builds something with extensions, of which no two may have one OID (RFC 5280 4.2).
use Rattle.std.specs.Prelude.{◌≡◌, ℕ, List, Result, Ok, Err}
use Rattle.x509_c_calls.specs.Status.{Fills}
use Rattle.x509_c_calls.specs.declared.status.status.Status.{Status}
use Rattle.x509_c_calls.specs.declared.status.status.Status.TheVariants.{Done, NoRoom, Absent, Repeated, Faulty, Limit, Refused}
use Rattle.x509_der.specs.declared.error.ErrorKind.{ErrorKind}

-- the answers but Repeated
abbrev pub but_repeated : (Result (List ℕ) Status → Type 0) → Result (List ℕ) ErrorKind → Type 0
but_repeated answers (Ok bytes) = answers (Ok bytes)
but_repeated answers (Err e) = answers (Err (Refused e))

-- What a call leaves that hands over bytes: as Fills says; or it answers Repeated, and then room and number are as they were.
unfoldable pub FillsUnrepeated : (Result (List ℕ) Status → Type 0) → List ℕ → List ℕ → ℕ → ℕ → Status → Type 0
FillsUnrepeated answers room filled was written Done = Fills (but_repeated answers) room filled was written Done
FillsUnrepeated answers room filled was written NoRoom = Fills (but_repeated answers) room filled was written NoRoom
FillsUnrepeated answers room filled was written (Refused e) = Fills (but_repeated answers) room filled was written (Refused e)
FillsUnrepeated answers room filled was written Repeated = answers (Err Repeated) × (written ≡ was) × (filled ≡ room)
FillsUnrepeated answers room filled was written Absent = ⊥
FillsUnrepeated answers room filled was written Faulty = ⊥
FillsUnrepeated answers room filled was written Limit = ⊥
