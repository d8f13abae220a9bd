-- A rule as one sentence: how it is told, from which day on and up to which it is in force, and what breaks it.
use Rattle.std.specs.Prelude.{◌≡◌, ◌&&◌, ◌||◌, ◌==◌, ℕ, Bool, true, false, not, nat_le, nat_lt, List, codes, Option, Some, None}
use Rattle.x509_base.specs.CivilTime.{CivilTime}
use Rattle.x509_lint.specs.Wording.{Wording, Says, must_of, should_of}
use Rattle.x509_lint.specs.Words.{Certificate}
use Rattle.x509_lint_web.specs.declared.day.Day.{Day}
use Rattle.x509_lint_web.specs.declared.entry.WebEntry.{WebEntry}
use Rattle.x509_lint_web.specs.declared.values.WebValues.{WebValues}

-- what a section of the Baseline Requirements (TLS BR) says; since is None where it was said from the beginning, and until where it is said today
pub record Sentence : Type 0 where
  pub wording : Wording
  pub since : Option Day
  pub until : Option Day
  pub breaks : Certificate → WebValues → Bool

-- the section says MUST, MUST NOT or SHALL
abbrev pub must : List ℕ → List ℕ → Option Day → List ℕ → (Certificate → WebValues → Bool) → Sentence
must name section since place breaks =
    record { wording = must_of (codes "TLS BR") name section place; since = since; until = None; breaks = breaks }

-- the section said so before the second day
abbrev pub must_until : List ℕ → List ℕ → Option Day → Option Day → List ℕ → (Certificate → WebValues → Bool) → Sentence
must_until name section since until place breaks = record (must name section since place breaks) { until = until }

-- the section says SHOULD, SHOULD NOT, RECOMMENDED or NOT RECOMMENDED
abbrev pub should : List ℕ → List ℕ → Option Day → List ℕ → (Certificate → WebValues → Bool) → Sentence
should name section since place breaks =
    record { wording = should_of (codes "TLS BR") name section place; since = since; until = None; breaks = breaks }

abbrev pub from_day : ℕ → ℕ → ℕ → Option Day
from_day year month day = Some (record { year = year; month = month; day = day })

-- the moment is on the day, or behind it
abbrev pub is_reached : Day → CivilTime → Bool
is_reached day m =
    nat_lt day.year m.year || ((day.year == m.year) && (nat_lt day.month m.month || ((day.month == m.month) && nat_le day.day m.day)))

abbrev pub is_begun : Option Day → CivilTime → Bool
is_begun None m = true
is_begun (Some day) m = is_reached day m

abbrev pub is_over : Option Day → CivilTime → Bool
is_over None m = false
is_over (Some day) m = is_reached day m

abbrev pub is_in_force : Sentence → CivilTime → Bool
is_in_force sentence m = is_begun sentence.since m && not (is_over sentence.until m)

-- the entry tells the sentence
abbrev pub IsTold : WebEntry → Sentence → Type 0
IsTold entry sentence = Says entry.entry sentence.wording × (entry.since ≡ sentence.since) × (entry.until ≡ sentence.until)
