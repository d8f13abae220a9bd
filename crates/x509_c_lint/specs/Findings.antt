-- What calls leave that hand over which rules an object breaks: a line of JSON (RFC 8259) for each.
use Rattle.std.specs.Prelude.{◌≡◌, ◌≤◌, ◌<◌, ◌⊎◌, ℕ, List, length, codes, string_bytes, Some, None, Result, Ok, Err}
use Rattle.x509_c_calls.specs.Status.{Fills}
use Rattle.x509_c_calls.specs.declared.status.status.Status.{Status}
use Rattle.x509_c_calls.specs.declared.status.status.Status.TheVariants.{Done, Refused}
use Rattle.x509_der.specs.Element.{limit}
use Rattle.x509_der.specs.declared.error.ErrorKind.{ErrorKind}
use Rattle.x509_der.specs.declared.error.ErrorKind.TheVariants.{Memory, Overlength, Malformed}
use Rattle.x509_lint.specs.Report.{IsSaidAs}
use Rattle.x509_lint.specs.declared.report.Kind.{Kind}
use Rattle.x509_lint.specs.declared.report.Report.{Report}

-- the lines are what the linter says of the object of this kind whose encoding the bytes are
abbrev pub IsSaidIn : Kind → List ℕ → List ℕ → Type 0
IsSaidIn kind bytes lines = (report : Report) × IsSaidAs kind (Some (codes "{")) bytes (Some report) × (string_bytes report.text ≡ lines)

-- These lines. Overlength where the bytes are too long; else Malformed where they are the encoding of no such object.
abbrev pub AreFindings : Kind → List ℕ → Result (List ℕ) ErrorKind → Type 0
AreFindings kind bytes (Ok lines) = (length bytes ≤ limit) × IsSaidIn kind bytes lines
AreFindings kind bytes (Err Overlength) = limit < length bytes
AreFindings kind bytes (Err Malformed) = (length bytes ≤ limit) × IsSaidAs kind (Some (codes "{")) bytes None
AreFindings kind bytes (Err _) = ⊥

-- What a call leaves that hands over the lines: what any leaves that hands over bytes. The room is as it was unless the lines are in it, and
-- memory is refused only where the bytes aren't too long.
unfoldable pub Lints : Kind → List ℕ → List ℕ → List ℕ → ℕ → ℕ → Status → Type 0
Lints kind bytes room filled was written status =
    Fills (AreFindings kind bytes) room filled was written status
    × ((status ≡ Done) ⊎ (filled ≡ room))
    × (status ≡ Refused Memory → length bytes ≤ limit)
