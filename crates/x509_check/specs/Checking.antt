-- What a check answers: what decoding answers, without the value.
use Rattle.std.specs.Prelude.{◌≡◌, ℕ, List, Some, Result, Ok, Err, if◌then◌else◌}
use Rattle.x509_der.specs.Outcome.{◌>>=◌}
use Rattle.x509_der.specs.declared.error.Error.{Error}
use Rattle.x509_der.specs.declared.error.ErrorKind.{ErrorKind}
use Rattle.x509_der.specs.declared.error.ErrorKind.TheVariants.{Malformed}
use Rattle.x509_der.specs.Frames.{Default, default_of}

-- whether there is a value, and else the refusal
abbrev pub checked : {X : Type 0} → Result X ErrorKind → Result Unit ErrorKind
checked (Ok value) = Ok tt
checked (Err e) = Err e

-- The check passes where reading finds a value, and is refused as reading is.
abbrev pub Finds : {X : Type 0} → Result Unit Error → Result X ErrorKind → Type 0
Finds {X} (Ok done) reading = (value : X) × (reading ≡ Ok value)
Finds (Err e) reading = reading ≡ Err e.kind

-- The check passes where reading finds a part of a sequence, and leaves what follows the part.
abbrev pub Passes : {X : Type 0} → Result Unit Error → List ℕ → Result (X × List ℕ) ErrorKind → Type 0
Passes {X} (Ok done) rest reading = (value : X) × (reading ≡ Ok (value, rest))
Passes (Err e) rest reading = reading ≡ Err e.kind

-- the value of a field that is there, which isn't its default (X.690 11.5)
abbrev pub no_default : {X : Type 0} → Default X → X → Result X ErrorKind
no_default default value = if default.is_default value then Err Malformed else Ok value

abbrev pub other_value : {X : Type 0} → Default X → Result X ErrorKind → Result X ErrorKind
other_value default reading = reading >>= no_default default

abbrev pub other_than : {X : Type 0} → Default X → Result (X × List ℕ) ErrorKind → Result (X × List ℕ) ErrorKind
other_than default reading = reading >>= λ found. default_of default (Some found.0, found.1)
