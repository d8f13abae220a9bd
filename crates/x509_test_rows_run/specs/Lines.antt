-- The lines of an input and the lines of an output.
use Rattle.std.specs.Prelude.{◌≡◌, ◌≢◌, ◌<◌, ◌≤◌, ◌⊎◌, ℕ, suc, zero, List, [], ◌++◌, length, Option, Some, None}
use Rattle.x509_der.specs.declared.error.ErrorKind.{ErrorKind}
use Rattle.x509_der.specs.declared.error.ErrorKind.TheVariants.{Memory, Overlength}
use Rattle.x509_codec.specs.Answers.{Reencoding}
use Rattle.x509_tool_run.specs.Answer.{Answer, text_of, as_line}
use Rattle.x509_tool_run.specs.Program.{IsWritten, IsCutOff}
use Rattle.x509_test_rows_run.specs.Row.{Lacks, AnswersLine, line_limit}

-- so many lines, each with its line feed, make the input, and the answers to them, each with a line feed, the output
abbrev pub AnswersLines : Reencoding → ℕ → List ℕ → List ℕ → Type 0
AnswersLines reencodes zero input output = (input ≡ []) × (output ≡ [])
AnswersLines reencodes (suc count) input output =
    (before : List ℕ) × (said : List ℕ) × (line : List ℕ) × (answer : Answer)
    × AnswersLines reencodes count before said × Lacks 10 line × AnswersLine reencodes line answer
    × (input ≡ before ++ as_line line) × (output ≡ said ++ as_line (text_of answer))

-- the output is the answers to the first lines of an input
abbrev pub AnswersFirst : Reencoding → List ℕ → List ℕ → Type 0
AnswersFirst reencodes input output =
    (front : List ℕ) × (rest : List ℕ) × (count : ℕ) × AnswersLines reencodes count front output × (input ≡ front ++ rest)

-- the output is the answers to the lines of an input that have their line feed; the rest of the input has none
abbrev pub AnswersSoFar : Reencoding → List ℕ → List ℕ → List ℕ → Type 0
AnswersSoFar reencodes input rest output =
    (front : List ℕ) × (count : ℕ)
    × AnswersLines reencodes count front output × Lacks 10 rest × (input ≡ front ++ rest)

-- The output is the answers to all lines of an input. What comes after the last line feed is a line unless it is empty.
abbrev pub AnswersAll : Reencoding → List ℕ → List ℕ → Type 0
AnswersAll reencodes input output =
    AnswersSoFar reencodes input [] output
    ⊎ ((rest : List ℕ) × (said : List ℕ) × (answer : Answer)
    × AnswersSoFar reencodes input rest said × (rest ≢ []) × AnswersLine reencodes rest answer
    × (output ≡ said ++ as_line (text_of answer)))

-- What is kept of the bytes since the last line feed: they themselves; or why they were let go, in the place of those
-- that came.
abbrev pub Keeps : List ℕ → Option ErrorKind → List ℕ → Type 0
Keeps kept fault rest =
    ((fault ≡ None) × (kept ≡ rest) × (length rest ≤ line_limit))
    ⊎ (((fault ≡ Some Overlength) × (line_limit < length rest)) ⊎ ((fault ≡ Some Memory) × (rest ≢ [])))

-- what was written before and what is held back make the output
abbrev pub Said : {S : Type 0} → (S → Option (List ℕ) → S → Type 0) → S → List ℕ → List ℕ → S → Type 0
Said step s output held t = (written : List ℕ) × IsWritten step s written t × (output ≡ written ++ held)

-- After this input the answers to its lines are said, and what is kept is what follows the last line feed.
abbrev pub Stands : {S : Type 0} → Reencoding → (S → Option (List ℕ) → S → Type 0) → S → List ℕ → List ℕ → Option ErrorKind → List ℕ → S → Type 0
Stands reencodes step s input kept fault held t =
    (rest : List ℕ) × (output : List ℕ)
    × AnswersSoFar reencodes input rest output × Keeps kept fault rest × Said step s output held t

-- A write failed or took no bytes, and only a front of the answers to the first lines of this input is written.
abbrev pub Stopped : {S : Type 0} → Reencoding → (S → Option (List ℕ) → S → Type 0) → S → List ℕ → S → Type 0
Stopped reencodes step s input t = (output : List ℕ) × AnswersFirst reencodes input output × IsCutOff step s output t
