-- Runs of characters that stand for themselves in a line, by the bytes of their text.
use Rattle.std.specs.Prelude.{ℕ, suc, Bool, ◌||◌, ◌&&◌, nat_eq, nat_lt, nat_le, List, [], ◌∷◌, slice_index, if◌then◌else◌}
use Rattle.x509_text.specs.declared.line.Style.{Style}
use Rattle.x509_text.specs.Lines.{is_hidden, is_quoted}

-- the last bytes of U+200E, U+200F and U+2028 to U+202E, and of U+2066 to U+2069
abbrev pub is_hidden_end : ℕ → ℕ → Bool
is_hidden_end second third =
    (nat_eq second 0x80 && ((nat_le 0x8E third && nat_lt third 0x90) || (nat_le 0xA8 third && nat_lt third 0xAF)))
    || (nat_eq second 0x81 && (nat_le 0xA6 third && nat_lt third 0xAA))

-- whether the UTF-8 of a hidden character beyond ASCII begins so: U+0080 to U+009F, U+061C, or one of those
abbrev pub begins_hidden : ℕ → ℕ → ℕ → Bool
begins_hidden first second third =
    (nat_eq first 0xC2 && nat_lt second 0xA0)
    || ((nat_eq first 0xD8 && nat_eq second 0x9C) || (nat_eq first 0xE2 && is_hidden_end second third))

-- whether a character that doesn't stand for itself begins with these bytes; where the first lies within a character, none does
unfoldable pub ends_run : Style → ℕ → ℕ → ℕ → Bool
ends_run style first second third =
    if nat_lt first 0x80 then is_hidden first || is_quoted style first else begins_hidden first second third

-- how many bytes of a text lie in front of its first character that doesn't stand for itself
unfoldable pub run_len : Style → List ℕ → ℕ
run_len style [] = 0
run_len style (byte ∷ bytes) = if ends_run style byte (slice_index bytes 0) (slice_index bytes 1) then 0 else suc (run_len style bytes)

-- whether a byte is outside of what stands for itself in ASCII, or may be quoted
abbrev pub is_special : ℕ → Bool
is_special byte = (nat_lt byte 0x20 || nat_lt 0x7E byte) || (nat_eq byte 34 || nat_eq byte 92)
