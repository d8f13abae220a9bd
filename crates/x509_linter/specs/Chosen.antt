-- What the program prints of the bytes of an object, where options choose among its findings.
use Rattle.std.specs.Prelude.{◌≡◌, ℕ, Bool, true, false, List, Option, Some, None, length, map, string_bytes}
use Rattle.x509_lint.specs.declared.report.Report.{Report}
use Rattle.x509_linter.specs.Choice.{asks, has_count}
use Rattle.x509_linter.specs.Lines.{has_counted, kept_text}
use Rattle.x509_linter.specs.Linter.{IsNone, front_for, headed, json_front, no_object, refused, status_of, told}
use Rattle.x509_linter.specs.Said.{is_said_by}
use Rattle.x509_linter.specs.Wrong.{wrong}
use Rattle.x509_linter.specs.declared.chosen.Chosen.{Chosen}
use Rattle.x509_linter.specs.declared.chosen.Findings.{Findings}
use Rattle.x509_linter.specs.declared.linter.Linter.{Linter}
use Rattle.x509_linter.specs.declared.linter.Telling.{Telling}
use Rattle.x509_linter.specs.declared.linter.Telling.TheVariants.{Lines, Verbose, Json, VerboseJson}
use Rattle.x509_object_run.specs.Object.{Subject}
use Rattle.x509_object_run.specs.declared.heading.Headed.{Headed}
use Rattle.x509_object_run.specs.declared.heading.Headed.TheVariants.{Not}

-- how many octets stand in front of the members of a finding; None for a text
abbrev pub front_length : Telling → List ℕ → Option ℕ
front_length Lines name = None
front_length Verbose name = None
front_length Json name = Some (length (json_front name))
front_length VerboseJson name = Some (length (json_front name))

-- those of the findings of a text that options choose
abbrev pub IsChosen : Telling → List (List ℕ) → List ℕ → List ℕ → Findings → Type 0
IsChosen telling options heading text findings =
    (findings.text.items ≡ kept_text options (front_length telling heading) text)
    × (findings.counts ≡ has_counted options (front_length telling heading) text)

-- of what is said of an object
abbrev pub AreFindings : Linter → List (List ℕ) → List ℕ → List ℕ → Findings → Type 0
AreFindings linter options heading bytes findings =
    (report : Report) × is_said_by linter.rules linter.kind (front_for linter.telling heading) bytes (Some report)
    × IsChosen linter.telling options heading (string_bytes report.text) findings

-- the lines that options choose of the report on bytes, and 1 where one of them counts
abbrev pub Tells : Linter → List (List ℕ) → List ℕ → List ℕ → List ℕ → ℕ → Type 0
Tells linter options heading bytes text status =
    (report : Report) × is_said_by linter.rules linter.kind (front_for linter.telling heading) bytes (Some report)
    × (text ≡ told linter.telling (asks options linter.rules linter.kind) heading (kept_text options (front_length linter.telling heading) (string_bytes report.text)))
    × (status ≡ status_of (has_counted options (front_length linter.telling heading) (string_bytes report.text)))

-- what stands above the lines of an input: nothing where they are summed up
abbrev pub headed_for : Bool → Telling → Bool → Headed
headed_for true telling is_several = Not
headed_for false telling is_several = headed telling is_several

abbrev pub chosen_subject : Linter → List (List ℕ) → Subject
chosen_subject linter options = record {
  prints = Tells linter options;
  is_none = IsNone linter;
  no_object = no_object linter.kind;
  wrong = wrong linter.kind;
  headed = headed_for (has_count options) linter.telling;
  refused = refused linter.telling linter.kind;
}

abbrev pub subject : Chosen → Subject
subject chosen = chosen_subject chosen.linter (map (λ option. option.now) chosen.options.now)
