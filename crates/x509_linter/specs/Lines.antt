-- Lines of findings: of which rule each is, how bad it is, and which of them are reported.
use Rattle.std.specs.Prelude.{◌&&◌, not, ℕ, Bool, true, false, List, [], ◌∷◌, ◌++◌, Option, Some, None, codes, drop, length, nat_eq, ◌==◌, if◌then◌else◌}
use Rattle.std.specs.List.{after_first, before_first, flat_map, list_any, slice_split, starts_with}
use Rattle.x509_linter.specs.Choice.{is_counted, is_picked}

abbrev pub before : ℕ → List ℕ → List ℕ
before mark text = before_first (λ octet. octet == mark) text

abbrev pub behind : ℕ → List ℕ → List ℕ
behind mark text = after_first (λ octet. octet == mark) text

-- behind the second such mark
abbrev pub behind_two : ℕ → List ℕ → List ℕ
behind_two mark text = behind mark (behind mark text)

-- The severity of a finding with what stands behind it, and the name of its rule.
pub record Told : Type 0 where
  pub severity : List ℕ
  pub name : List ℕ

-- `error NAME (..`, or `not judged NAME (..`
abbrev pub told_behind : List ℕ → Told
told_behind severity =
    if starts_with nat_eq severity (codes "not ") then record { severity = severity; name = before 32 (behind_two 32 severity) }
    else record { severity = severity; name = before 32 (behind 32 severity) }

-- of a line for people, as `certificate: error NAME (RFC 5280 4.1.2.2)`
abbrev pub text_told : List ℕ → Told
text_told line = told_behind (behind 32 line)

-- of `NAME", "severity": "error", ..`
abbrev pub json_told_behind : List ℕ → Told
json_told_behind rule = record { severity = behind_two 34 (behind_two 34 rule); name = before 34 rule }

-- of an object of JSON, behind the members in front: `"object": "certificate", "rule": "NAME", "severity": "error", ..`
abbrev pub json_told : List ℕ → Told
json_told members = json_told_behind (behind 34 (behind_two 34 (behind_two 34 (behind_two 34 members))))

-- of a line, in front of whose members as many octets stand; None for a text
abbrev pub told_of : Option ℕ → List ℕ → Told
told_of None line = text_told line
told_of (Some count) line = json_told (drop count line)

abbrev pub is_empty : List ℕ → Bool
is_empty [] = true
is_empty (octet ∷ octets) = false

-- whether a line is a finding that is reported, and whether it counts besides
abbrev pub is_kept : List (List ℕ) → Option ℕ → List ℕ → Bool
is_kept options front line = not (is_empty line) && is_picked options (told_of front line).name

abbrev pub counts : List (List ℕ) → Option ℕ → List ℕ → Bool
counts options front line = is_kept options front line && is_counted options (told_of front line).severity

abbrev pub lines_of : List ℕ → List (List ℕ)
lines_of text = slice_split (λ octet. octet == 10) text

abbrev pub kept_line : List (List ℕ) → Option ℕ → List ℕ → List ℕ
kept_line options front line = if is_kept options front line then line ++ 10 ∷ [] else []

-- the lines of a text that are reported
abbrev pub kept_lines : List (List ℕ) → Option ℕ → List (List ℕ) → List ℕ
kept_lines options front lines = flat_map (kept_line options front) lines

abbrev pub kept_text : List (List ℕ) → Option ℕ → List ℕ → List ℕ
kept_text options front text = kept_lines options front (lines_of text)

-- whether one of them counts
abbrev pub has_counted : List (List ℕ) → Option ℕ → List ℕ → Bool
has_counted options front text = list_any (counts options front) (lines_of text)
