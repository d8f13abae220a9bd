-- What a room is filled with.
use Rattle.std.proofs.Common.{◌≡◌, ◌⊎◌, ℕ, List, Result, Ok, Err, refl, sym, subst, inl, inr}
use Rattle.x509_c_calls.specs.Built.{FillsUnrepeated, but_repeated}
use Rattle.x509_c_calls.specs.Status.{Fills}
use Rattle.x509_c_calls.specs.declared.status.status.Status.{Status}
use Rattle.x509_c_calls.specs.declared.status.status.Status.TheVariants.{Done, NoRoom, Absent, Repeated, Faulty, Limit, Refused}
use Rattle.x509_der.specs.declared.error.ErrorKind.{ErrorKind}
use Rattle.x509_der.specs.declared.error.ErrorKind.TheVariants.{Memory}

-- what is an answer to one question is one to another
pub fills_as : (A B : Result (List ℕ) ErrorKind → Type 0) → ((answer : Result (List ℕ) ErrorKind) → A answer → B answer) → (room filled : List ℕ) (was written : ℕ) (status : Status) → Fills A room filled was written status → Fills B room filled was written status
unfolding Fills
fills_as A B to room filled was written Done (bytes, answers, front, len) = (bytes, to (Ok bytes) answers, front, len)
fills_as A B to room filled was written NoRoom (bytes, answers, more, len) = (bytes, to (Ok bytes) answers, more, len)
fills_as A B to room filled was written Absent left = left
fills_as A B to room filled was written Repeated left = left
fills_as A B to room filled was written Faulty left = left
fills_as A B to room filled was written Limit left = left
fills_as A B to room filled was written (Refused e) (why, same) = (elim why [ inl memory ↦ inl memory | inr answers ↦ inr (to (Err e) answers) ], same)

-- bytes that are an answer are filled in as one
pub fills_with : (B : Result (List ℕ) ErrorKind → Type 0) (bytes room filled : List ℕ) (was written : ℕ) (status : Status) → B (Ok bytes) → Fills (λ answer. answer ≡ Ok bytes) room filled was written status → Fills B room filled was written status
fills_with B bytes room filled was written status good left = fills_as (λ answer. answer ≡ Ok bytes) B (λ answer is. subst B (sym is) good) room filled was written status left

-- the same of bytes that are equal to them
pub fills_same : (B : Result (List ℕ) ErrorKind → Type 0) (bytes same room filled : List ℕ) (was written : ℕ) (status : Status) → Fills (λ answer. answer ≡ Ok bytes) room filled was written status → B (Ok same) → bytes ≡ same → Fills B room filled was written status
fills_same B bytes same room filled was written status left good is = fills_with B bytes room filled was written status (subst (λ x. B (Ok x)) (sym is) good) left

-- ---- where Repeated may be answered too

-- any other answer is one
pub unrepeated : (answers : Result (List ℕ) Status → Type 0) (room filled : List ℕ) (was written : ℕ) (status : Status) → Fills (but_repeated answers) room filled was written status → FillsUnrepeated answers room filled was written status
unfolding Fills FillsUnrepeated
unrepeated answers room filled was written Repeated left = absurd left
unrepeated answers room filled was written _ left = left

pub unrepeated_as : (A : Result (List ℕ) ErrorKind → Type 0) (B : Result (List ℕ) Status → Type 0) → ((answer : Result (List ℕ) ErrorKind) → A answer → but_repeated B answer) → (room filled : List ℕ) (was written : ℕ) (status : Status) → Fills A room filled was written status → FillsUnrepeated B room filled was written status
unrepeated_as A B to room filled was written status left = unrepeated B room filled was written status (fills_as A (but_repeated B) to room filled was written status left)

pub unrepeated_with : (B : Result (List ℕ) Status → Type 0) (bytes room filled : List ℕ) (was written : ℕ) (status : Status) → B (Ok bytes) → Fills (λ answer. answer ≡ Ok bytes) room filled was written status → FillsUnrepeated B room filled was written status
unrepeated_with B bytes room filled was written status good left = unrepeated B room filled was written status (fills_with (but_repeated B) bytes room filled was written status good left)

-- a refusal is one
pub refused_as : (B : Result (List ℕ) Status → Type 0) (room : List ℕ) (was : ℕ) (e : ErrorKind) → (e ≡ Memory) ⊎ B (Err (Refused e)) → FillsUnrepeated B room room was was (Refused e)
unfolding Fills FillsUnrepeated
refused_as B room was e why = (why, refl)

pub repeated_as : (B : Result (List ℕ) Status → Type 0) (room : List ℕ) (was : ℕ) → B (Err Repeated) → FillsUnrepeated B room room was was Repeated
unfolding FillsUnrepeated
repeated_as B room was repeats = (repeats, refl, refl)

-- so is what a look for repeated extensions answers
pub checked_as : (B : Result (List ℕ) Status → Type 0) (Q : Type 0) (room : List ℕ) (was : ℕ) (status : Status) → (Q → B (Err Repeated)) → (status ≡ Refused Memory) ⊎ ((status ≡ Repeated) × Q) → FillsUnrepeated B room room was was status
unfolding Fills FillsUnrepeated
checked_as B Q room was status to (inl memory) = rw memory (inl refl, refl)
checked_as B Q room was status to (inr repeated) = rw repeated.0 (to repeated.1, refl, refl)
