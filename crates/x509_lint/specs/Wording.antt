-- How a rule is told: how bad it is to break it, its name, its standard with its section, and where in the object it is broken.
use Rattle.std.specs.Prelude.{◌≡◌, ℕ, List, [], ◌++◌, bytes_eq, codes, if◌then◌else◌}
use Rattle.x509_lint.specs.declared.entry.Entry.{Entry}
use Rattle.x509_lint.specs.declared.entry.Severity.{Severity}
use Rattle.x509_lint.specs.declared.entry.Severity.TheVariants.{Error, Warning, NotJudged}

pub record Wording : Type 0 where
  pub severity : Severity
  pub name : List ℕ
  pub standard : List ℕ
  pub section : List ℕ
  pub place : List ℕ

-- the section says MUST or MUST NOT, REQUIRED, or has a size or a type
abbrev pub must_of : List ℕ → List ℕ → List ℕ → List ℕ → Wording
must_of standard name section place = record { severity = Error; name = name; standard = standard; section = section; place = place }

-- the section says SHOULD or SHOULD NOT
abbrev pub should_of : List ℕ → List ℕ → List ℕ → List ℕ → Wording
should_of standard name section place = record { severity = Warning; name = name; standard = standard; section = section; place = place }

-- sections of RFC 5280
abbrev pub must : List ℕ → List ℕ → List ℕ → Wording
must name section place = must_of (codes "RFC 5280") name section place

abbrev pub should : List ℕ → List ℕ → List ℕ → Wording
should name section place = should_of (codes "RFC 5280") name section place

-- the section allows it, and this library doesn't read it
abbrev pub not_judged : List ℕ → List ℕ → List ℕ → Wording
not_judged name section place = record { severity = NotJudged; name = name; standard = codes "RFC 5280"; section = section; place = place }

-- the entry has this wording
abbrev pub Says : Entry → Wording → Type 0
Says entry wording =
    (entry.severity ≡ wording.severity) × (entry.name.now ≡ wording.name) × (entry.standard.now ≡ wording.standard)
    × (entry.section.now ≡ wording.section) × (entry.place.now ≡ wording.place)

abbrev pub severity_text : Severity → List ℕ
severity_text Error = codes "error"
severity_text Warning = codes "warning"
severity_text NotJudged = codes "not judged"

-- as `error serial_number_not_positive (RFC 5280 4.1.2.2)`
abbrev pub wording_text : Wording → List ℕ
wording_text w = severity_text w.severity ++ (codes " " ++ (w.name ++ (codes " (" ++ (w.standard ++ (codes " " ++ (w.section ++ codes ")"))))))

-- which extension it is that can't be read: the place behind a colon
abbrev pub which_text : Wording → List ℕ
which_text w = if bytes_eq w.name (codes "extension_malformed") then codes ": " ++ w.place else []
