-- The statuses of calls from C as numbers, and what a call leaves that hands over bytes.
use Rattle.std.specs.Prelude.{◌≡◌, ◌<◌, ◌≤◌, ◌⊎◌, ℕ, ℤ, pos, negsuc, List, length, take, Result, Ok, Err}
use Rattle.x509_der.specs.declared.error.ErrorKind.{ErrorKind}
use Rattle.x509_der.specs.declared.error.ErrorKind.TheVariants.{Memory, Overlength, Malformed, Failed, SetDuplicate, Value}
use Rattle.x509_c_calls.specs.declared.status.status.Status.{Status}
use Rattle.x509_c_calls.specs.declared.status.status.Status.TheVariants.{Done, NoRoom, Absent, Repeated, Faulty, Limit, Refused}

-- the number of a refusal: -1 where memory ran out
abbrev pub refusal_code : ErrorKind → ℤ
refusal_code Overlength = pos 1
refusal_code Malformed = pos 2
refusal_code Failed = pos 3
refusal_code SetDuplicate = pos 4
refusal_code Value = pos 5
refusal_code Memory = negsuc 0

-- the number of a status: -2 for too little room
abbrev pub code_of : Status → ℤ
code_of Done = pos 0
code_of NoRoom = negsuc 1
code_of Absent = pos 6
code_of Repeated = pos 7
code_of Faulty = pos 8
code_of Limit = pos 9
code_of (Refused e) = refusal_code e

-- a number that tells of a status of which this holds
abbrev pub Tells : (Status → Type 0) → ℤ → Type 0
Tells holds code = (status : Status) × (code ≡ code_of status) × holds status

-- where the octets fit, they stand at the front of the buffer; else it is as it was
abbrev pub IsPut : List ℕ → List ℕ → List ℕ → Type 0
IsPut octets room filled = ((length octets ≤ length room) × (take (length octets) filled ≡ octets)) ⊎ ((length room < length octets) × (filled ≡ room))

-- What a call leaves that hands over bytes, by a room before and after it, and by a number before and after it. Done: the room
-- begins with the bytes, and the number is how many they are. NoRoom: there are more bytes than the room has, and the number is how many.
-- Refused: the number is as it was; memory may always be refused.
unfoldable pub Fills : (Result (List ℕ) ErrorKind → Type 0) → List ℕ → List ℕ → ℕ → ℕ → Status → Type 0
Fills answers room filled was written Done =
    (bytes : List ℕ) × answers (Ok bytes) × (take (length bytes) filled ≡ bytes) × (written ≡ length bytes)
Fills answers room filled was written NoRoom =
    (bytes : List ℕ) × answers (Ok bytes) × (length room < length bytes) × (written ≡ length bytes)
Fills answers room filled was written (Refused e) = ((e ≡ Memory) ⊎ answers (Err e)) × (written ≡ was)
Fills answers room filled was written Absent = ⊥
Fills answers room filled was written Repeated = ⊥
Fills answers room filled was written Faulty = ⊥
Fills answers room filled was written Limit = ⊥
