-- What calls leave that hand over the document of an object: lines that a person reads, or JSON.
use Rattle.std.specs.Prelude.{◌≡◌, ◌≤◌, ◌<◌, ◌⊎◌, ℕ, List, length, Some, None, Result, Ok, Err}
use Rattle.x509_c_calls.specs.Status.{Fills}
use Rattle.x509_c_calls.specs.declared.status.status.Status.{Status}
use Rattle.x509_c_calls.specs.declared.status.status.Status.TheVariants.{Done, Refused}
use Rattle.x509_der.specs.Element.{limit}
use Rattle.x509_der.specs.declared.error.ErrorKind.{ErrorKind}
use Rattle.x509_der.specs.declared.error.ErrorKind.TheVariants.{Memory, Overlength, Malformed}
use Rattle.x509_text.specs.Objects.{shown_as}
use Rattle.x509_text.specs.declared.line.Style.{Style}
use Rattle.x509_text.specs.declared.objects.Kind.{Kind}

-- The document of the object of this kind that the bytes are the encoding of, under no rules beyond the grammar. Overlength where they are too
-- long; else Malformed where they are the encoding of none.
abbrev pub IsDocument : Kind → Style → List ℕ → Result (List ℕ) ErrorKind → Type 0
IsDocument kind style bytes (Ok document) = (length bytes ≤ limit) × (shown_as kind style bytes ≡ Some document)
IsDocument kind style bytes (Err Overlength) = limit < length bytes
IsDocument kind style bytes (Err Malformed) = (length bytes ≤ limit) × (shown_as kind style bytes ≡ None)
IsDocument kind style bytes (Err _) = ⊥

-- What a call leaves that hands over the document: what any leaves that hands over bytes. The room is as it was unless the document is in it, and
-- memory is refused only where the bytes aren't too long.
unfoldable pub Shows : Kind → Style → List ℕ → List ℕ → List ℕ → ℕ → ℕ → Status → Type 0
Shows kind style bytes room filled was written status =
    Fills (IsDocument kind style bytes) room filled was written status
    × ((status ≡ Done) ⊎ (filled ≡ room))
    × (status ≡ Refused Memory → length bytes ≤ limit)
