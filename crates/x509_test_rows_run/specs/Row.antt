-- A line of the rows, and its answer.
use Rattle.std.specs.Prelude.{◌≡◌, ◌≢◌, ◌<◌, ◌≤◌, ◌⊎◌, ℕ, List, ◌∷◌, ◌++◌, length, Some, Err}
use Rattle.std.specs.List.{All}
use Rattle.std.specs.Str.{IsUtf8}
use Rattle.hex.specs.Hex.{decode_of}
use Rattle.x509_der.specs.declared.error.ErrorKind.TheVariants.{Memory, Overlength, Failed}
use Rattle.x509_codec.specs.declared.profile_name.ProfileName.{ProfileName}
use Rattle.x509_tool_run.specs.declared.refusal.Refusal.TheVariants.{Because}
use Rattle.x509_codec.specs.Answers.{Reencoding}
use Rattle.x509_tool_run.specs.Answer.{Answer, IsReencoded}
use Rattle.x509_codec.specs.ProfileNames.{profile_of}

-- The most bytes of a line that is kept: 1,026 over the hex text of the longest encoding.
abbrev pub line_limit : ℕ
line_limit = 536871936

-- none of these bytes is that byte
abbrev pub Lacks : ℕ → List ℕ → Type 0
Lacks byte bytes = All (λ x. x ≢ byte) bytes

-- the line is a name in UTF-8, a profile's word and a hex text, parted by spaces
abbrev pub IsRow : List ℕ → List ℕ → ProfileName → List ℕ → Type 0
IsRow line name profile text =
    (word : List ℕ) × (line ≡ name ++ 32 ∷ (word ++ 32 ∷ text)) × Lacks 32 name × IsUtf8 name × Lacks 32 word × (profile_of word ≡ Some profile)

-- the answer to a row is the re-encoding of its bytes
abbrev pub AnswersRow : Reencoding → List ℕ → Answer → Type 0
AnswersRow reencodes line answer =
    (name : List ℕ) × (profile : ProfileName) × (text : List ℕ)
    × IsRow line name profile text × IsReencoded (reencodes name profile) (decode_of text) answer

-- a line of another form is refused
abbrev pub AnswersOther : List ℕ → Answer → Type 0
AnswersOther line answer =
    ((name : List ℕ) (profile : ProfileName) (text : List ℕ) → IsRow line name profile text → ⊥)
    × (answer ≡ Err (Because Failed))

-- the answer to a line that is kept
abbrev pub AnswersKept : Reencoding → List ℕ → Answer → Type 0
AnswersKept reencodes line answer = AnswersRow reencodes line answer ⊎ AnswersOther line answer

-- The answer to a line. One that is longer than the limit is refused whatever it is, and so is each where memory is
-- refused.
abbrev pub AnswersLine : Reencoding → List ℕ → Answer → Type 0
AnswersLine reencodes line answer =
    ((length line ≤ line_limit) × AnswersKept reencodes line answer)
    ⊎ (((line_limit < length line) × (answer ≡ Err (Because Overlength))) ⊎ (answer ≡ Err (Because Memory)))
