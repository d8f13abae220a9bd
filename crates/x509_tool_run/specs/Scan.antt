-- Texts of PEM (RFC 7468 3) in lines that come one after the other.
use Rattle.std.specs.Prelude.{ℕ, Bool, true, false, List, [], ◌∷◌, ◌++◌, codes, nat_eq, Option, Some, None, Result, Ok, Err, if◌then◌else◌}
use Rattle.std.specs.List.{list_any, starts_with}
use Rattle.std.specs.Option.{option_to_list}
use Rattle.base64.specs.Engines.{standard}
use Rattle.base64.specs.GeneralPurpose.{decode_of}
use Rattle.base64.specs.declared.decode.DecodeError.{DecodeError}
use Rattle.x509_tool_run.specs.Pem.{is_binary, is_end, label_of, trimmed}
use Rattle.x509_tool_run.specs.declared.scan.Broken.{Broken}
use Rattle.x509_tool_run.specs.declared.scan.Broken.TheVariants.{NoEnd, OtherEnd, NoBase64}
use Rattle.x509_tool_run.specs.declared.scan.Scan.{Scan}
use Rattle.x509_tool_run.specs.declared.scan.Stage.{Stage}
use Rattle.x509_tool_run.specs.declared.scan.Stage.TheVariants.{Before, Binary, Between, Within}

-- What a text comes to: the bytes of its object, or why it has none.
abbrev pub Text : Type 0
Text = Result (List ℕ) Broken

-- Where lines lead to: a stage, and of a text that isn't ended its label, with the hyphens behind it, and its base64.
pub record Mark : Type 0 where
  pub stage : Stage
  pub label : List ℕ
  pub digits : List ℕ

-- before the first line
abbrev pub start : Mark
start = record { stage = Before; label = []; digits = [] }

abbrev pub mark_of : Scan → Mark
mark_of scan = record { stage = scan.stage; label = scan.label.items; digits = scan.digits.items }

-- whether a text of PEM has begun
abbrev pub is_pem : Stage → Bool
is_pem Before = false
is_pem Binary = false
is_pem Between = true
is_pem Within = true

-- behind a line that begins a text with this label
abbrev pub begun : List ℕ → Mark
begun label = record { stage = Within; label = label; digits = [] }

-- behind a line that begins a text, or else what was
abbrev pub begun_or : Mark → Option (List ℕ) → Mark
begun_or m (Some label) = begun label
begun_or m None = m

abbrev pub closed : Mark
closed = record { stage = Between; label = []; digits = [] }

-- whether a line ends a text, in whatever way: no base64 has hyphens
abbrev pub is_border : List ℕ → Bool
is_border line = starts_with nat_eq line (codes "-----")

-- Behind a line: the first that begins a text makes it PEM, unless an octet that no text has stands in a line before or in it.
abbrev pub after_line : Stage → Mark → List ℕ → Mark
after_line Before m line = if list_any is_binary line then record { stage = Binary; label = m.label; digits = m.digits } else begun_or m (label_of line)
after_line Binary m line = m
after_line Between m line = begun_or m (label_of line)
after_line Within m line =
    if is_border line then begun_or closed (label_of line)
    else record { stage = Within; label = m.label; digits = m.digits ++ line }

abbrev pub after : Mark → List ℕ → Mark
after m line = after_line m.stage m (trimmed line)

abbrev pub decoded : Result (List ℕ) DecodeError → Text
decoded (Ok bytes) = Ok bytes
decoded (Err e) = Err NoBase64

-- why a text isn't ended that ends with a line that may begin another
abbrev pub unended : Option (List ℕ) → Broken
unended (Some label) = NoEnd
unended None = OtherEnd

-- a text with this label and base64, up to the line that ends it: RFC 4648 4 of the lines between
abbrev pub text_at : List ℕ → List ℕ → List ℕ → Text
text_at label digits line = if is_end label line then decoded (decode_of standard digits) else Err (unended (label_of line))

-- the text that a line ends
abbrev pub ended_by : Stage → Mark → List ℕ → Option Text
ended_by Before m line = None
ended_by Binary m line = None
ended_by Between m line = None
ended_by Within m line = if is_border line then Some (text_at m.label m.digits line) else None

abbrev pub ended : Mark → List ℕ → Option Text
ended m line = ended_by m.stage m (trimmed line)

-- behind lines, and the texts that end in them
abbrev pub mark_from : Mark → List (List ℕ) → Mark
mark_from m [] = m
mark_from m (line ∷ lines) = mark_from (after m line) lines

abbrev pub texts_from : Mark → List (List ℕ) → List Text
texts_from m [] = []
texts_from m (line ∷ lines) = option_to_list (ended m line) ++ texts_from (after m line) lines

-- the text that no line ends
abbrev pub last_text : Stage → Option Text
last_text Before = None
last_text Binary = None
last_text Between = None
last_text Within = Some (Err NoEnd)
