-- What the statuses of calls mean, in a few words.
use Rattle.std.specs.Prelude.{◌≡◌, ℕ, ℤ, List, codes, Result, Ok, Err}
use Rattle.x509_c_calls.specs.Status.{code_of}
use Rattle.x509_c_calls.specs.declared.status.status.Status.{Status}
use Rattle.x509_c_calls.specs.declared.status.status.Status.TheVariants.{Done, NoRoom, Absent, Repeated, Faulty, Limit, Refused}
use Rattle.x509_der.specs.declared.error.ErrorKind.{ErrorKind}
use Rattle.x509_der.specs.declared.error.ErrorKind.TheVariants.{Memory, Overlength, Malformed, Failed, SetDuplicate, Value}

abbrev pub refusal_text : ErrorKind → List ℕ
refusal_text Memory = codes "out of memory"
refusal_text Overlength = codes "too long"
refusal_text Malformed = codes "malformed"
refusal_text Failed = codes "not of the form"
refusal_text SetDuplicate = codes "an attribute twice in a relative name"
refusal_text Value = codes "can't be made or written"

abbrev pub text_of : Status → List ℕ
text_of Done = codes "done"
text_of NoRoom = codes "the room is too small"
text_of Absent = codes "absent"
text_of Repeated = codes "there more than once"
text_of Faulty = codes "the path has a fault"
text_of Limit = codes "a limit is used up"
text_of (Refused e) = refusal_text e

-- the text of the status with that number, or Failed where none has it
abbrev pub IsStatusText : ℤ → Result (List ℕ) ErrorKind → Type 0
IsStatusText code (Ok text) = (status : Status) × (code ≡ code_of status) × (text ≡ text_of status)
IsStatusText code (Err e) = (e ≡ Failed) × ((status : Status) → code ≡ code_of status → ⊥)
