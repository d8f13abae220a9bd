-- PEM (RFC 7468 3): base64 of objects, each between two lines with its label.
use Rattle.std.specs.Prelude.{ℕ, Bool, ◌&&◌, ◌||◌, not, List, [], ◌∷◌, ◌++◌, ◌-◌, bytes_eq, codes, drop, length, map, nat_eq, take, ◌==◌, Option, Some, None, Result, Ok, Err, if◌then◌else◌}
use Rattle.std.specs.Char.{is_ascii_control, is_ascii_whitespace}
use Rattle.std.specs.List.{ends_with, list_any, slice_split, starts_with, suffix_len}
use Rattle.base64.specs.Engines.{standard}
use Rattle.base64.specs.GeneralPurpose.{decode_of}

-- the bytes of a text in front of those of others, where each text stands for bytes
abbrev pub in_front : {E : Type 0} → Result (List ℕ) E → Option (List (List ℕ)) → Option (List (List ℕ))
in_front (Ok bytes) (Some others) = Some (bytes ∷ others)
in_front (Ok bytes) None = None
in_front (Err e) others = None

-- an octet that no text has: a control character that isn't white space. DER of what a certificate, a CRL or a CSR is has one.
abbrev pub is_binary : ℕ → Bool
is_binary byte = is_ascii_control byte && not (is_ascii_whitespace byte)

-- a carriage return, a line feed or both end a line; between both there is an empty one, which says nothing
abbrev pub ends_line : ℕ → Bool
ends_line byte = (byte == 13) || (byte == 10)

-- the lines of a text
abbrev pub lines_of : List ℕ → List (List ℕ)
lines_of text = slice_split ends_line text

-- a line without the white space at its end
abbrev pub trimmed : List ℕ → List ℕ
trimmed line = take (length line - suffix_len is_ascii_whitespace line) line

-- whether a line is `-----BEGIN LABEL-----`
abbrev pub is_begin : List ℕ → Bool
is_begin line = starts_with nat_eq line (codes "-----BEGIN ") && ends_with nat_eq line (codes "-----")

-- of such a line the label, and the hyphens behind it
abbrev pub label_of : List ℕ → Option (List ℕ)
label_of line = if is_begin line then Some (drop 11 line) else None

-- whether a line is `-----END LABEL-----`
abbrev pub is_end : List ℕ → List ℕ → Bool
is_end label line = starts_with nat_eq line (codes "-----END ") && bytes_eq (drop 9 line) label

-- The objects of the lines: behind a line that begins a text its base64 (RFC 4648 4), up to the line that ends it. Other lines say nothing. None where a text
-- has no end, or other octets stand in it.
abbrev pub objects_of : Option (List ℕ) → List ℕ → List (List ℕ) → Option (List (List ℕ))
objects_of None digits [] = Some []
objects_of (Some label) digits [] = None
objects_of None digits (line ∷ lines) = objects_of (label_of line) digits lines
objects_of (Some label) digits (line ∷ lines) =
    if is_end label line then in_front (decode_of standard digits) (objects_of None [] lines)
    else objects_of (Some label) (digits ++ line) lines

-- the objects of PEM in an input, none where it is no text or has no such lines
abbrev pub pem_objects : List ℕ → Option (List (List ℕ))
pem_objects input =
    if list_any is_binary input then Some []
    else objects_of None [] (map trimmed (lines_of input))
