-- What a call answers that lends parts of bytes: what decoding answers, seen by a view, and never Memory.
use Rattle.std.specs.Prelude.{◌≡◌, List, [], ℕ, Result, Ok, Err}
use Rattle.x509_der.specs.declared.error.Error.{Error}
use Rattle.x509_der.specs.declared.error.ErrorKind.{ErrorKind}

-- a call answers, seen by view, what reading gives
abbrev pub LendsBy : {X Y : Type 0} → (X → Y) → Result X Error → Result Y ErrorKind → Type 0
LendsBy view (Ok x) reading = reading ≡ Ok (view x)
LendsBy view (Err e) reading = reading ≡ Err e.kind

-- the same of a part of a sequence: the call leaves what follows the part
abbrev pub LendsBefore : {X Y : Type 0} → (X → Y) → Result X Error → List ℕ → Result (Y × List ℕ) ErrorKind → Type 0
LendsBefore view (Ok x) rest reading = reading ≡ Ok (view x, rest)
LendsBefore view (Err e) rest reading = reading ≡ Err e.kind

-- the values that were read; none where reading is refused
abbrev pub listed : {X : Type 0} → Result (List X) ErrorKind → List X
listed (Ok values) = values
listed (Err e) = []

-- The call answers what is so related to the value that reading finds, and is refused as reading is.
abbrev pub LendsSo : {X Y : Type 0} → (X → Y → Type 0) → Result Y Error → Result X ErrorKind → Type 0
LendsSo {X} so (Ok y) reading = (value : X) × (reading ≡ Ok value) × so value y
LendsSo so (Err e) reading = reading ≡ Err e.kind

-- The call answers what is so related to the part of a sequence that reading finds, and what follows it.
abbrev pub LendsSoBefore : {X Y : Type 0} → (X → Y → Type 0) → Result Y Error → List ℕ → Result (X × List ℕ) ErrorKind → Type 0
LendsSoBefore {X} so (Ok y) rest reading = (value : X) × (reading ≡ Ok (value, rest)) × so value y
LendsSoBefore so (Err e) rest reading = reading ≡ Err e.kind
