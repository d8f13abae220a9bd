-- What a run of the program does, from what it reads to what it writes.
use Rattle.std.specs.Prelude.{◌≡◌, ◌≢◌, ℕ, List, [], ◌++◌, Option, Some, None, Result, ◌⊎◌}
use Rattle.x509_tool_run.specs.Transfer.{Moves}
use Rattle.x509_tool_run.specs.Input.{Input, IsRead}
use Rattle.x509_tool_run.specs.Answer.{Answer, Codecs, IsAnswer, IsLineAnswer, text_of, status_of, as_line}
use Rattle.x509_codec.specs.Answers.{PathStep}
use Rattle.x509_tool_run.specs.Path.{Verdict, IsPathLine, verdict_text, verdict_status}
use Rattle.x509_tool_run.specs.declared.command.Command.{Command}
use Rattle.x509_tool_run.specs.declared.refusal.Refusal.{Refusal}

-- writes lead from one state to another and take this text
abbrev pub IsWritten : {S : Type 0} → (S → Option (List ℕ) → S → Type 0) → S → List ℕ → S → Type 0
IsWritten step s text t = (writes : ℕ) × Moves step s writes text t

-- writes take only a front of this text, since the last of them fails or takes no bytes
abbrev pub IsCutOff : {S : Type 0} → (S → Option (List ℕ) → S → Type 0) → S → List ℕ → S → Type 0
IsCutOff {S} step s text t =
    (u : S) × (front : List ℕ) × (rest : List ℕ)
    × IsWritten step s front u × (step u None t ⊎ step u (Some []) t) × (text ≡ front ++ rest) × (rest ≢ [])

-- a run ends by a line and a status, and by status 1 where the line can't be written
abbrev pub Says : {S : Type 0} → (S → Option (List ℕ) → S → Type 0) → S → List ℕ → ℕ → S → ℕ → Type 0
Says takes old text status new ended =
    (IsWritten takes old (as_line text) new × (ended ≡ status)) ⊎ (IsCutOff takes old (as_line text) new × (ended ≡ 1))

-- reads give an input, and this is an answer to it, where a line is answered so
abbrev pub Answers : {R A : Type 0} → (List ℕ → Result A Refusal → Type 0) → (R → Option (List ℕ) → R → Type 0) → R → R → Result A Refusal → Type 0
Answers answers gives from to answer =
    (input : Input) × IsRead gives from input to × IsAnswer answers input answer

-- a run that obeys a command reads an input and says an answer to it
abbrev pub Obeys : {R W : Type 0} → Codecs → Command → (R → Option (List ℕ) → R → Type 0) → R → R → (W → Option (List ℕ) → W → Type 0) → W → W → ℕ → Type 0
Obeys codecs command gives from to takes old new ended =
    (answer : Answer) × Answers (IsLineAnswer codecs command) gives from to answer
    × Says takes old (text_of answer) (status_of answer) new ended

-- a run that checks a path at a moment reads an input and says its verdict on it
abbrev pub ChecksPath : {R W : Type 0} → PathStep → List ℕ → (R → Option (List ℕ) → R → Type 0) → R → R → (W → Option (List ℕ) → W → Type 0) → W → W → ℕ → Type 0
ChecksPath checks moment gives from to takes old new ended =
    (verdict : Verdict) × Answers (IsPathLine checks moment) gives from to verdict
    × Says takes old (verdict_text verdict) (verdict_status verdict) new ended
