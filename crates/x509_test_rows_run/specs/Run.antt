-- What a run over lines does, from what it reads to what it writes.
use Rattle.std.specs.Prelude.{◌≡◌, ◌⊎◌, ℕ, List, [], ◌++◌, Option, Some, None, Err}
use Rattle.x509_der.specs.declared.error.ErrorKind.TheVariants.{Overlength}
use Rattle.x509_tool_run.specs.declared.refusal.Refusal.{Refusal}
use Rattle.x509_tool_run.specs.declared.refusal.Refusal.TheVariants.{Read, Because}
use Rattle.x509_codec.specs.Answers.{Reencoding}
use Rattle.x509_tool_run.specs.Answer.{text_of, as_line}
use Rattle.x509_tool_run.specs.Program.{IsWritten, IsCutOff}
use Rattle.x509_tool_run.specs.Transfer.{Moves}
use Rattle.x509_test_rows_run.specs.Lines.{AnswersFirst, AnswersSoFar, AnswersAll}

-- the most reads that are made
abbrev pub read_limit : ℕ
read_limit = 18446744073709551615

-- reads lead from one state to another and give these bytes, each of them some
abbrev pub IsRead : {S : Type 0} → (S → Option (List ℕ) → S → Type 0) → S → List ℕ → S → Type 0
IsRead step s bytes t = (reads : ℕ) × Moves step s reads bytes t

-- the same and a read that finds the end
abbrev pub IsReadWhole : {S : Type 0} → (S → Option (List ℕ) → S → Type 0) → S → List ℕ → S → Type 0
IsReadWhole {S} step s bytes t = (u : S) × IsRead step s bytes u × step u (Some []) t

-- reading stopped since a read failed, or since there were too many
abbrev pub IsReadInPart : {S : Type 0} → (S → Option (List ℕ) → S → Type 0) → S → List ℕ → Refusal → S → Type 0
IsReadInPart {S} step s bytes refusal t =
    ((refusal ≡ Read) × ((u : S) × IsRead step s bytes u × step u None t))
    ⊎ ((refusal ≡ Because Overlength) × ((reads : ℕ) × (reads ≡ read_limit) × Moves step s reads bytes t))

-- What a run has to write after all of its reads, and its status: the answers to all lines of an input that was read to
-- its end; or, where reading stopped, the answers to the lines that came whole, and the refusal.
abbrev pub Answers : {R : Type 0} → Reencoding → (R → Option (List ℕ) → R → Type 0) → R → R → List ℕ → ℕ → Type 0
Answers reencodes gives from to output status =
    ((input : List ℕ) × IsReadWhole gives from input to × AnswersAll reencodes input output × (status ≡ 0))
    ⊎ ((input : List ℕ) × (rest : List ℕ) × (said : List ℕ) × (refusal : Refusal)
    × IsReadInPart gives from input refusal to × AnswersSoFar reencodes input rest said
    × (output ≡ said ++ as_line (text_of (Err refusal))) × (status ≡ 1))

-- what a run has to write after some reads: answers to the first lines of what they gave
abbrev pub AnswersFront : {R : Type 0} → Reencoding → (R → Option (List ℕ) → R → Type 0) → R → R → List ℕ → Type 0
AnswersFront reencodes gives from to output =
    (input : List ℕ) × IsRead gives from input to × AnswersFirst reencodes input output

-- A run writes all that it has to and ends by its status; or it ends by status 1 where a write failed or took no bytes,
-- and only a front of it is written.
abbrev pub Runs : {R W : Type 0} → Reencoding → (R → Option (List ℕ) → R → Type 0) → R → R → (W → Option (List ℕ) → W → Type 0) → W → W → ℕ → Type 0
Runs reencodes gives from to takes old new ended =
    ((output : List ℕ) × Answers reencodes gives from to output ended × IsWritten takes old output new)
    ⊎ ((output : List ℕ) × (status : ℕ)
    × (Answers reencodes gives from to output status ⊎ AnswersFront reencodes gives from to output)
    × IsCutOff takes old output new × (ended ≡ 1))
