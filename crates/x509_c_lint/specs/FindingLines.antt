-- Findings as lines of JSON (RFC 8259), one after the other, and where the texts of one stand.
use Rattle.std.specs.Prelude.{◌≡◌, ◌+◌, ◌≤◌, ℕ, List, ◌∷◌, ◌++◌, codes, drop, length, All}
use Rattle.x509_c_calls.specs.Place.{IsAt}
use Rattle.x509_c_lint.specs.declared.finding.FindingView.{FindingView}
use Rattle.x509_c_calls.specs.declared.place.span.Span.{Span}
use Rattle.x509_c_calls.specs.declared.status.status.Status.{Status}
use Rattle.x509_c_calls.specs.declared.status.status.Status.TheVariants.{Done, NoRoom, Absent, Repeated, Faulty, Limit, Refused}
use Rattle.x509_der.specs.declared.error.ErrorKind.TheVariants.{Malformed}
use Rattle.x509_lint.specs.Report.{json_line}
use Rattle.x509_lint.specs.Rules.{rule_wording}
use Rattle.x509_lint.specs.Wording.{Wording, severity_text}
use Rattle.x509_lint.specs.declared.rule.Rule.{Rule}

-- a text without the quotation mark that would end it (RFC 8259 7)
abbrev pub IsUnquoted : List ℕ → Type 0
IsUnquoted text = All (λ octet. octet ≡ 34 → ⊥) text

-- at the place stands the front, behind it the text in the span, which ends at a quotation mark, and more behind that
pub record IsText (lines : List ℕ) (at : ℕ) (front text more : List ℕ) (span : Span) : Type 0 where
  pub unquoted : IsUnquoted text
  pub stands : drop at lines ≡ front ++ (text ++ 34 ∷ more)
  pub is : IsAt text (34 ∷ more) lines span
  pub within : span.place + span.len ≤ length lines

-- the texts of a finding
pub record Texts : Type 0 where
  pub object : List ℕ
  pub rule : List ℕ
  pub severity : List ℕ
  pub section : List ℕ
  pub place : List ℕ
  pub seen : List ℕ

abbrev pub AreUnquoted : Texts → Type 0
AreUnquoted t = IsUnquoted t.object × IsUnquoted t.rule × IsUnquoted t.severity × IsUnquoted t.section × IsUnquoted t.place × IsUnquoted t.seen

-- what stands behind each text to the end of the line, and the line, with what stands behind it
abbrev pub behind_seen : List ℕ → List ℕ
behind_seen more = codes "\"}\n" ++ more

abbrev pub behind_place : Texts → List ℕ → List ℕ
behind_place t more = codes "\", \"seen\": \"" ++ (t.seen ++ behind_seen more)

abbrev pub behind_section : Texts → List ℕ → List ℕ
behind_section t more = codes "\", \"place\": \"" ++ (t.place ++ behind_place t more)

abbrev pub behind_severity : Texts → List ℕ → List ℕ
behind_severity t more = codes "\", \"section\": \"" ++ (t.section ++ behind_section t more)

abbrev pub behind_rule : Texts → List ℕ → List ℕ
behind_rule t more = codes "\", \"severity\": \"" ++ (t.severity ++ behind_severity t more)

abbrev pub behind_object : Texts → List ℕ → List ℕ
behind_object t more = codes "\", \"rule\": \"" ++ (t.rule ++ behind_rule t more)

abbrev pub finding_line : Texts → List ℕ → List ℕ
finding_line t more = codes "{\"object\": \"" ++ (t.object ++ behind_object t more)

-- the line of a finding stands at the place, and more behind it
abbrev pub StandsAt : List ℕ → ℕ → Texts → List ℕ → Type 0
StandsAt lines at t more = AreUnquoted t × (drop at lines ≡ finding_line t more)

-- A finding's line stands at the place that was, each of its texts in its span; the place that is, is the one behind it.
pub record IsFinding (lines : List ℕ) (was is : ℕ) (t : Texts) (more : List ℕ) (view : FindingView) : Type 0 where
  pub stands : StandsAt lines was t more
  pub behind : (drop is lines ≡ more) × (is ≤ length lines)
  pub object : IsAt t.object (behind_object t more) lines view.object
  pub rule : IsAt t.rule (behind_rule t more) lines view.rule
  pub severity : IsAt t.severity (behind_severity t more) lines view.severity
  pub section : IsAt t.section (behind_section t more) lines view.section
  pub place : IsAt t.place (behind_place t more) lines view.place
  pub seen : IsAt t.seen (behind_seen more) lines view.seen

-- the texts of the finding that the linter tells of an object that is called so, of a rule and of what is seen
abbrev pub texts_of : List ℕ → Wording → List ℕ → Texts
texts_of word w seen = record {
  object = word;
  rule = w.name;
  severity = severity_text w.severity;
  section = w.standard ++ (codes " " ++ w.section);
  place = w.place;
  seen = seen;
}

-- Where a line of the linter stands at the place that was, of which no text has a quotation mark, it is found.
abbrev pub FindsTold : List ℕ → ℕ → ℕ → FindingView → Status → Type 0
FindsTold lines was is view status =
    (word seen more : List ℕ) (rule : Rule) → AreUnquoted (texts_of word (rule_wording rule) seen)
    → drop was lines ≡ json_line (codes "{") word (rule_wording rule) seen ++ more
    → (status ≡ Done) × IsFinding lines was is (texts_of word (rule_wording rule) seen) more view

-- the lines don't end there, and no line of a finding stands there
abbrev pub IsNoFinding : List ℕ → ℕ → Type 0
IsNoFinding lines at = (at ≡ length lines → ⊥) × ((t : Texts) (more : List ℕ) → StandsAt lines at t more → ⊥)

-- What a call leaves that asks for the next finding. Done: there is one. Absent: the lines end there. What isn't filled in stays as it was.
unfoldable pub StepsFinding : List ℕ → ℕ → ℕ → FindingView → FindingView → Status → Type 0
StepsFinding lines was is old new Done = (t : Texts) × (more : List ℕ) × IsFinding lines was is t more new
StepsFinding lines was is old new Absent = (was ≡ length lines) × (is ≡ was) × (new ≡ old)
StepsFinding lines was is old new (Refused e) = (e ≡ Malformed) × IsNoFinding lines was × (is ≡ was) × (new ≡ old)
StepsFinding lines was is old new NoRoom = ⊥
StepsFinding lines was is old new Repeated = ⊥
StepsFinding lines was is old new Faulty = ⊥
StepsFinding lines was is old new Limit = ⊥
