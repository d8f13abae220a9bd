-- What the iterator over the extensions of a type gives, and has still to give.
use Rattle.std.specs.Prelude.{◌≡◌, ℕ, Bool, List, [], ◌∷◌, Option, Result, MatchOption}
use Rattle.x509_der.specs.declared.error.Error.{Error}
use Rattle.x509_der.specs.declared.error.ErrorKind.{ErrorKind}
use Rattle.x509_der.specs.Form.{Form}
use Rattle.x509_ext.specs.declared.extension.Extension.{Extension}
use Rattle.x509_ext.specs.LookUp.{DecodesPayload, with_oid}
use Rattle.x509_ext.specs.declared.filter.FilterExtensions.{FilterExtensions}

-- those with the identifier that were not given yet
abbrev pub extensions_left : {T : Type 0} → List ℕ → FilterExtensions T → List Extension
extensions_left oid iterator = with_oid oid iterator.rest.now

-- A call gives what the decoder answers on the first that is left, and leaves the others; or None exactly where none is
-- left.
abbrev pub GivesDecoded : {S T : Type 0} → Form T → (ErrorKind → Type 0) → Type 0 → (S → List Extension) → S → Option (Result (Bool × T) Error) → S → Type 0
GivesDecoded form refuses wants_memory left old answer new =
    MatchOption answer
    ((left old ≡ []) × (left new ≡ []))
    (λ item. (extension : Extension) × (left old ≡ extension ∷ left new) × DecodesPayload form refuses wants_memory extension item)
