-- Which findings are reported, and which of them count: what the options `--only`, `--without` and `--level` choose.
use Rattle.std.specs.Prelude.{◌&&◌, ◌||◌, not, ℕ, Bool, true, false, List, [], ◌∷◌, ◌++◌, Option, Some, None, bytes_eq, codes, drop, length, nat_eq, if◌then◌else◌}
use Rattle.std.specs.List.{flat_map, list_all, list_any, starts_with}
use Rattle.x509_lint.specs.declared.report.Kind.{Kind}
use Rattle.x509_lint.specs.declared.report.Kind.TheVariants.{Certificate, Crl, Csr, Anchor}
use Rattle.x509_linter.specs.Names.{anchor_rules, certificate_rules, crl_rules, csr_rules, is_rule, lines_of, web_rules}
use Rattle.x509_object_run.specs.Words.{has_option}
use Rattle.x509_linter.specs.declared.said.Rules.{Rules}
use Rattle.x509_linter.specs.declared.said.Rules.TheVariants.{Rfc, Web, Both}
use Rattle.x509_linter.specs.declared.values.Part.{Part}
use Rattle.x509_linter.specs.declared.values.Part.TheVariants as parts

-- ---- words

abbrev pub is_word : List ℕ → List ℕ → Bool
is_word word other = bytes_eq word other

-- an option behind which its value may stand as a word of its own
abbrev pub takes_value : List ℕ → Bool
takes_value word = is_word word (codes "--only") || (is_word word (codes "--without") || is_word word (codes "--level"))

-- whether there are options behind a word
abbrev pub is_end : List ℕ → Bool
is_end word = is_word word (codes "--")

-- an option, an equals sign and its value
abbrev pub with_value : List ℕ → List ℕ → List ℕ
with_value option value = option ++ (codes "=" ++ value)

-- what a word is, where `--` stood before or didn't
abbrev pub part_of : Bool → List ℕ → Part
part_of true word = parts.Whole
part_of false word = if takes_value word then parts.Awaiting else if is_end word then parts.End else parts.Whole

-- The words, where each value stands with its option in one: behind an option that awaits its value, or none; and behind `--` or not.
abbrev pub joined_from : Option (List ℕ) → Bool → List (List ℕ) → List (List ℕ)
joined_from None over [] = []
joined_from (Some option) over [] = option ∷ []
joined_from (Some option) over (word ∷ words) = with_value option word ∷ joined_from None over words
joined_from None true (word ∷ words) = word ∷ joined_from None true words
joined_from None false (word ∷ words) =
    if takes_value word then joined_from (Some word) false words
    else if is_end word then word ∷ joined_from None true words
    else word ∷ joined_from None false words

abbrev pub joined : List (List ℕ) → List (List ℕ)
joined words = joined_from None false words

-- ---- options

-- what stands behind this front
abbrev pub behind_front : List ℕ → List ℕ → Option (List ℕ)
behind_front front option = if starts_with nat_eq option front then Some (drop (length front) option) else None

abbrev pub only_of : List ℕ → Option (List ℕ)
only_of option = behind_front (codes "--only=") option

abbrev pub without_of : List ℕ → Option (List ℕ)
without_of option = behind_front (codes "--without=") option

abbrev pub level_of : List ℕ → Option (List ℕ)
level_of option = behind_front (codes "--level=") option

abbrev pub is_level : List ℕ → Bool
is_level name = is_word name (codes "error") || (is_word name (codes "warning") || is_word name (codes "notice"))

abbrev pub has : Option (List ℕ) → Bool
has (Some value) = true
has None = false

-- whether there is a value, and it passes
abbrev pub passes : (List ℕ → Bool) → Option (List ℕ) → Bool
passes holds (Some value) = holds value
passes holds None = false

-- an option that says which rules are asked of, or from which severity on findings count
abbrev pub names_rules : List ℕ → Bool
names_rules option = has (only_of option) || has (without_of option)

-- an option that asks for a summary
abbrev pub is_count : List ℕ → Bool
is_count option = is_word option (codes "--count")

-- one of these
abbrev pub is_choice : List ℕ → Bool
is_choice option = names_rules option || (has (level_of option) || is_count option)

-- such an option, of a rule or of a level that there is
abbrev pub is_right : List ℕ → Bool
is_right option =
    passes is_rule (only_of option) || (passes is_rule (without_of option) || (passes is_level (level_of option) || is_count option))

abbrev pub is_plain : List ℕ → Bool
is_plain option = not (is_choice option)

abbrev pub may_stand : List ℕ → Bool
may_stand option = is_plain option || is_right option

abbrev pub plain_option : List ℕ → List (List ℕ)
plain_option option = if is_plain option then option ∷ [] else []

-- the options that choose nothing
abbrev pub plain_options : List (List ℕ) → List (List ℕ)
plain_options options = flat_map plain_option options

-- whether options ask for a summary
abbrev pub has_count : List (List ℕ) → Bool
has_count options = has_option (codes "--count") options

-- and for objects of JSON beside it, of which there is no summary
abbrev pub are_mixed : List (List ℕ) → Bool
are_mixed options = has_count options && has_option (codes "--json") options

-- whether options choose, and each that does is right
abbrev pub choose : List (List ℕ) → Bool
choose options = (list_any is_choice options && list_all may_stand options) && not (are_mixed options)

-- ---- findings

abbrev pub has_only : List ℕ → Bool
has_only option = has (only_of option)

abbrev pub is_only : List ℕ → List ℕ → Bool
is_only name option = passes (bytes_eq name) (only_of option)

abbrev pub is_without : List ℕ → List ℕ → Bool
is_without name option = passes (bytes_eq name) (without_of option)

-- whether findings of this rule are reported: of those that `--only` names, where it names any, and of none that `--without` names
abbrev pub is_picked : List (List ℕ) → List ℕ → Bool
is_picked options name =
    (list_any (is_only name) options || not (list_any has_only options)) && not (list_any (is_without name) options)

-- whether one of these rules is
abbrev pub any_picked : List (List ℕ) → List ℕ → Bool
any_picked options names = list_any (is_picked options) (lines_of names)

-- on objects of this kind, where a trust anchor may be a certificate
abbrev pub asks_of : List (List ℕ) → Kind → Bool
asks_of options Certificate = any_picked options certificate_rules
asks_of options Crl = any_picked options crl_rules
asks_of options Csr = any_picked options csr_rules
asks_of options Anchor = any_picked options certificate_rules || any_picked options anchor_rules

-- whether a rule is asked: one of the Baseline Requirements, or one on certificates beside these, or one on objects of this kind, or of some kind
abbrev pub asks : List (List ℕ) → Rules → Option Kind → Bool
asks options (Web moment) kind = any_picked options web_rules
asks options (Both moment) kind = any_picked options certificate_rules || any_picked options web_rules
asks options Rfc (Some kind) = asks_of options kind
asks options Rfc None = asks_of options Anchor || (asks_of options Crl || asks_of options Csr)

abbrev pub is_of_level : List ℕ → List ℕ → Bool
is_of_level name option = passes (bytes_eq name) (level_of option)

abbrev pub has_level : List ℕ → List (List ℕ) → Bool
has_level name options = list_any (is_of_level name) options

-- whether a finding of this severity makes status 1: an error does, a warning from `--level warning` on, and what isn't judged from `--level notice` on
abbrev pub is_counted : List (List ℕ) → List ℕ → Bool
is_counted options severity =
    starts_with nat_eq severity (codes "error")
    || ((starts_with nat_eq severity (codes "warning") && (has_level (codes "warning") options || has_level (codes "notice") options))
    || (starts_with nat_eq severity (codes "not judged") && has_level (codes "notice") options))
