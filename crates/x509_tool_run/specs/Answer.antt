-- What the program answers to a command and an input, and how the answer reads.
use Rattle.std.specs.Prelude.{◌≡◌, ℕ, List, [], ◌∷◌, ◌++◌, codes, Bool, true, false, Result, Ok, Err, MatchResult, ◌⊎◌}
use Rattle.std.specs.Io.BufRead.{strip_last}
use Rattle.std.specs.Str.{is_utf8}
use Rattle.hex.specs.Hex.{decode_of, encode_upper}
use Rattle.hex.specs.declared.error.FromHexError.{FromHexError}
use Rattle.x509_der.specs.declared.error.ErrorKind.{ErrorKind}
use Rattle.x509_der.specs.declared.error.ErrorKind.TheVariants.{Memory, Overlength, Malformed, Failed, SetDuplicate, Value}
use Rattle.x509_codec.specs.Answers.{Reencoding, Step}
use Rattle.x509_tool_run.specs.declared.command.Command.{Command}
use Rattle.x509_tool_run.specs.declared.command.Command.TheVariants.{Reencode, Name, EncodeName}
use Rattle.x509_tool_run.specs.declared.refusal.Refusal.{Refusal}
use Rattle.x509_tool_run.specs.declared.refusal.Refusal.TheVariants.{Read, Because}
use Rattle.x509_tool_run.specs.Command.{type_name}
use Rattle.x509_tool_run.specs.Input.{Input, Whole, TooLong, Unreadable, Unkept}

-- an answer: a text, or a refusal
abbrev pub Answer : Type 0
Answer = Result (List ℕ) Refusal

-- What the codecs may answer, memory aside: re-encoding, the text of a name's bytes, and the encoding of a name's text.
pub record Codecs : Type 1 where
  pub reencodes : Reencoding
  pub prints_name : Step
  pub encodes_name : Step

-- the codecs that may give these answers
abbrev pub codecs_of : Reencoding → Step → Step → Codecs
codecs_of reencodes prints_name encodes_name = record { reencodes = reencodes; prints_name = prints_name; encodes_name = encodes_name }

-- the line of an input: all of it but one final line feed
abbrev pub line_of : List ℕ → List ℕ
line_of bytes = strip_last 10 bytes

-- what a step answered, its bytes shown as a text
abbrev pub shown : (List ℕ → List ℕ) → Result (List ℕ) ErrorKind → Answer
shown view (Ok bytes) = Ok (view bytes)
shown view (Err kind) = Err (Because kind)

-- the answer is what the step may give to these bytes, shown as a text
abbrev pub IsShown : (List ℕ → List ℕ) → Step → List ℕ → Answer → Type 0
IsShown view step bytes answer =
    (given : Result (List ℕ) ErrorKind) × step bytes given × (answer ≡ shown view given)

-- The answer to a line that stands for these bytes. A line that is no hex text stands for none; one that isn't UTF-8 is
-- no hex text.
abbrev pub IsFromHex : (List ℕ → Answer → Type 0) → Result (List ℕ) FromHexError → Answer → Type 0
IsFromHex answers (Ok bytes) answer = answers bytes answer
IsFromHex answers (Err e) answer = answer ≡ Err (Because Failed)

-- the answer to a line that is a text, where it is UTF-8
abbrev pub IsFromText : (List ℕ → Answer → Type 0) → Bool → List ℕ → Answer → Type 0
IsFromText answers true line answer = answers line answer
IsFromText answers false line answer = answer ≡ Err (Because Failed)

-- the answer to a line that stands for these bytes: their re-encoding as upper-case hex text
abbrev pub IsReencoded : Step → Result (List ℕ) FromHexError → Answer → Type 0
IsReencoded reencodes decoded answer = IsFromHex (IsShown encode_upper reencodes) decoded answer

-- the answer to a command with this line
abbrev pub IsLineAnswer : Codecs → Command → List ℕ → Answer → Type 0
IsLineAnswer codecs (Reencode kind profile) line answer =
    IsReencoded (codecs.reencodes (type_name kind) profile) (decode_of line) answer
IsLineAnswer codecs Name line answer = IsFromHex (IsShown (λ text. text) codecs.prints_name) (decode_of line) answer
IsLineAnswer codecs EncodeName line answer =
    IsFromText (IsShown encode_upper codecs.encodes_name) (is_utf8 line) line answer

-- the answer to an input, where a line is answered so
abbrev pub IsInputAnswer : {A : Type 0} → (List ℕ → Result A Refusal → Type 0) → Input → Result A Refusal → Type 0
IsInputAnswer answers (Whole bytes) answer = answers (line_of bytes) answer
IsInputAnswer answers TooLong answer = answer ≡ Err (Because Overlength)
IsInputAnswer answers Unreadable answer = answer ≡ Err Read
IsInputAnswer answers Unkept answer = answer ≡ Err (Because Memory)

-- that answer, or that memory was refused
abbrev pub IsAnswer : {A : Type 0} → (List ℕ → Result A Refusal → Type 0) → Input → Result A Refusal → Type 0
IsAnswer answers input answer = IsInputAnswer answers input answer ⊎ (answer ≡ Err (Because Memory))

-- the name of an error
abbrev pub kind_name : ErrorKind → List ℕ
kind_name Memory = codes "Memory"
kind_name Overlength = codes "Overlength"
kind_name Malformed = codes "Malformed"
kind_name Failed = codes "Failed"
kind_name SetDuplicate = codes "SetDuplicate"
kind_name Value = codes "Value"

-- the name of a refusal
abbrev pub refusal_name : Refusal → List ℕ
refusal_name Read = codes "Read"
refusal_name (Because kind) = kind_name kind

-- how an answer reads
abbrev pub text_of : Answer → List ℕ
text_of (Ok text) = text
text_of (Err refusal) = codes "refused: " ++ refusal_name refusal

-- the status that tells of an answer
abbrev pub status_of : Answer → ℕ
status_of (Ok text) = 0
status_of (Err refusal) = 1

-- how the program is called
abbrev pub usage : List ℕ
usage = codes "usage: x509_tool reencode TYPE [rfc5280|raw] | name | encode-name\n       x509_tool path [--any-signature] MOMENT"

-- a text and a line feed
abbrev pub as_line : List ℕ → List ℕ
as_line text = text ++ 10 ∷ []

-- what a call made, its bytes seen by view, is the line of one of these answers, or why there is none; memory may be refused
abbrev pub IsLine : {X : Type 0} → (X → List ℕ) → (Answer → Type 0) → Result X Refusal → Type 0
IsLine view answers result =
    MatchResult result (λ x. (text : List ℕ) × answers (Ok text) × (view x ≡ as_line text)) (λ refusal. (refusal ≡ Because Memory) ⊎ answers (Err refusal))
