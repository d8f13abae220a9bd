-- Why nothing whole is printed of an input, in words.
use Rattle.std.specs.Prelude.{ℕ, ◌-◌, ◌==◌, Bool, true, false, not, List, [], ◌∷◌, ◌++◌, Result, Ok, Err, codes, length, nat_eq, if◌then◌else◌}
use Rattle.std.specs.Fmt.{decimal}
use Rattle.std.specs.List.{starts_with}
use Rattle.x509_der.specs.ElementReading.{Piece, piece_at}
use Rattle.x509_der.specs.declared.error.ErrorKind.{ErrorKind}
use Rattle.x509_object_run.specs.declared.fault.Fault.{Fault}
use Rattle.x509_object_run.specs.declared.fault.Fault.TheVariants.{Unopened, Unreadable, TooLong, Unarmoured, NoObject, Unwritten, Memory}
use Rattle.x509_object_run.specs.declared.fault.Looks.{Looks}
use Rattle.x509_object_run.specs.declared.fault.Looks.TheVariants.{Empty, Pem, NoElement, Unfinished, NoSequence, Trailing, Whole}
use Rattle.x509_object_run.specs.declared.fault.OpenError.{OpenError}
use Rattle.x509_object_run.specs.declared.fault.OpenError.TheVariants as opening
use Rattle.x509_object_run.specs.Labels.{is_empty}
use Rattle.x509_tool_run.specs.Answer.{as_line}
use Rattle.x509_tool_run.specs.declared.scan.Broken.{Broken}
use Rattle.x509_tool_run.specs.declared.scan.Broken.TheVariants.{NoEnd, OtherEnd, NoBase64}

abbrev pub begins_with : List ℕ → List ℕ → Bool
begins_with bytes front = starts_with nat_eq bytes front

-- an element at the front of this many octets: whether it is a SEQUENCE, and what follows it
abbrev pub looks_of_piece : ℕ → Piece → Looks
looks_of_piece count piece =
    if not (piece.tag == 48) then NoSequence
    else if is_empty piece.rest then Whole
    else Trailing (count - length piece.rest) (length piece.rest)

-- no element at the front
abbrev pub looks_of_none : ℕ → Looks
looks_of_none first = if first == 48 then Unfinished else NoElement

abbrev pub looks_of_front : ℕ → ℕ → Result Piece ErrorKind → Looks
looks_of_front first count (Ok piece) = looks_of_piece count piece
looks_of_front first count (Err kind) = looks_of_none first

-- What bytes look like that are no object: PEM is told by its first octets, the rest by the element at the front (X.690 8.1).
abbrev pub looks_of : List ℕ → Looks
looks_of [] = Empty
looks_of (byte ∷ bytes) =
    if begins_with (byte ∷ bytes) (codes "-----BEGIN ") then Pem
    else looks_of_front byte (length (byte ∷ bytes)) (piece_at (byte ∷ bytes))

abbrev pub looks_text : Looks → List ℕ
looks_text Empty = codes "; it is empty"
looks_text Pem = codes "; it begins as PEM does, but no whole line of it begins an object"
looks_text NoElement = codes "; it doesn't begin with an element of DER"
looks_text Unfinished = codes "; it begins as a SEQUENCE does, but its length isn't DER, or goes beyond the end"
looks_text NoSequence = codes "; the element that it begins with is no SEQUENCE"
looks_text (Trailing place count) = codes "; behind its SEQUENCE, at offset " ++ (decimal place ++ (codes ", stand octets that don't belong to it: " ++ decimal count))
looks_text Whole = codes "; its SEQUENCE is whole, but something in it is wrong"

abbrev pub opening_text : OpenError → List ℕ
opening_text opening.NotFound = codes "no such file"
opening_text opening.Denied = codes "permission denied"
opening_text opening.Directory = codes "is a directory"
opening_text opening.Other = codes "can't be opened"

-- why a text of PEM has no object
abbrev pub broken_text : Broken → List ℕ
broken_text NoEnd = codes "no line ends its PEM"
broken_text OtherEnd = codes "the line that ends its PEM hasn't the label of the one that begins it"
broken_text NoBase64 = codes "what stands in its PEM is no base64"

-- a fault in words, where bytes that are no object are told so
abbrev pub fault_text : List ℕ → Fault → List ℕ
fault_text no_object (Unopened e) = opening_text e
fault_text no_object Unreadable = codes "can't be read"
fault_text no_object TooLong = codes "longer than 16777216 bytes"
fault_text no_object (Unarmoured why) = broken_text why
fault_text no_object (NoObject looks) = no_object ++ looks_text looks
fault_text no_object Unwritten = codes "the output can't be written"
fault_text no_object Memory = codes "out of memory"

-- whether bytes are told to be no object though they are one SEQUENCE
abbrev pub is_whole : Fault → Bool
is_whole (Unopened e) = false
is_whole Unreadable = false
is_whole TooLong = false
is_whole (Unarmoured why) = false
is_whole (NoObject Empty) = false
is_whole (NoObject Pem) = false
is_whole (NoObject NoElement) = false
is_whole (NoObject Unfinished) = false
is_whole (NoObject NoSequence) = false
is_whole (NoObject (Trailing place count)) = false
is_whole (NoObject Whole) = true
is_whole Unwritten = false
is_whole Memory = false

-- of such bytes, what in them is wrong
abbrev pub whole_text : List ℕ → List ℕ → List ℕ
whole_text no_object wrong = (no_object ++ codes "; its SEQUENCE is whole, but ") ++ wrong

-- a fault in words, where bytes that are no object are told so, and of those that are one SEQUENCE what in them is wrong
abbrev pub told_text : List ℕ → List ℕ → Fault → List ℕ
told_text no_object wrong fault = if is_whole fault then whole_text no_object wrong else fault_text no_object fault

-- as `x509_show: cert.der: no such file`, and a line feed
abbrev pub complaint : List ℕ → List ℕ → List ℕ → List ℕ
complaint program label reason = program ++ (codes ": " ++ (label ++ (codes ": " ++ as_line reason)))

-- as `x509_show: out of memory`, and a line feed
abbrev pub short_complaint : List ℕ → List ℕ → List ℕ
short_complaint program reason = program ++ (codes ": " ++ as_line reason)
