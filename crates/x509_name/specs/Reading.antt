-- A reader of a text with escapes, byte by byte: a tool, which the proofs show to be what Escapes.antt says.
use Rattle.std.specs.Prelude.{◌≡◌, ℕ, ◌+◌, ◌*◌, true, List, [], ◌∷◌, ◌++◌, nat_eq, Option, Some, None, if◌then◌else◌}
use Rattle.std.specs.Char.{digit_value}
use Rattle.x509_name.specs.Escapes.{is_special, is_hex}
use Rattle.x509_name.specs.declared.text.escapes.Position.{Position}
use Rattle.x509_name.specs.declared.text.escapes.Position.TheVariants.{Between, Escape, Digit}
use Rattle.x509_name.specs.declared.text.escapes.Turn.{Turn}
use Rattle.x509_name.specs.declared.text.escapes.Turn.TheVariants.{On, Gives, Fails}

-- what stands behind the backslash of a pair is a hex digit
abbrev pub IsPosition : Position → Type 0
IsPosition Between = Unit {0}
IsPosition Escape = Unit {0}
IsPosition (Digit high) = is_hex high ≡ true

abbrev pub step : Position → ℕ → Turn
step Between byte = if nat_eq byte 92 then On Escape else Gives byte
step Escape byte = if is_special byte then Gives byte else if is_hex byte then On (Digit byte) else Fails
step (Digit high) byte = if is_hex byte then Gives (16 * digit_value high + digit_value byte) else Fails

abbrev pub with_front : List ℕ → Option (List ℕ) → Option (List ℕ)
with_front front None = None
with_front front (Some bytes) = Some (front ++ bytes)

abbrev pub at_end : Position → Option (List ℕ)
at_end Between = Some []
at_end Escape = None
at_end (Digit high) = None

abbrev pub after : Turn → (Position → Option (List ℕ)) → Option (List ℕ)
after (On position) rest = rest position
after (Gives byte) rest = with_front (byte ∷ []) (rest Between)
after Fails rest = None

-- what a text gives from a position on
unfoldable pub reading : List ℕ → Position → Option (List ℕ)
reading [] position = at_end position
reading (byte ∷ text) position = after (step position byte) (reading text)
