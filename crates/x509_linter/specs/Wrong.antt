-- Where bytes stop being what is asked for.
use Rattle.std.specs.Prelude.{ℕ, List, [], ◌++◌, Option, Some, None, codes, if◌then◌else◌}
use Rattle.std.specs.Fmt.{decimal}
use Rattle.x509_lint.specs.declared.report.Kind.{Kind}
use Rattle.x509_lint.specs.declared.report.Kind.TheVariants.{Certificate, Crl, Csr, Anchor}
use Rattle.x509_object_run.specs.Faults.{is_whole}
use Rattle.x509_object_run.specs.declared.fault.Fault.{Fault}
use Rattle.x509_refusal.specs.Fields.{field_text}
use Rattle.x509_refusal.specs.Objects.{farthest, refusal_as}
use Rattle.x509_refusal.specs.Words.{wrong_text}
use Rattle.x509_refusal.specs.declared.place.Kind.TheVariants as objects
use Rattle.x509_refusal.specs.declared.place.Refusal.{Refusal}

-- where bytes stop being an object of the kind that is asked for, or of the one that they are most like; of a trust anchor it isn't known
abbrev pub refusal_for : Option Kind → List ℕ → Option Refusal
refusal_for None bytes = farthest bytes
refusal_for (Some Certificate) bytes = refusal_as objects.Certificate bytes
refusal_for (Some Crl) bytes = refusal_as objects.Crl bytes
refusal_for (Some Csr) bytes = refusal_as objects.Csr bytes
refusal_for (Some Anchor) bytes = None

-- what in them is wrong
abbrev pub wrong : Option Kind → List ℕ → List ℕ
wrong kind bytes = wrong_text (refusal_for kind bytes)

-- the members of JSON of a path of fields and a byte offset
abbrev pub members_at : List ℕ → ℕ → List ℕ
members_at path offset = codes ", \"place\": \"" ++ (path ++ (codes "\", \"offset\": " ++ decimal offset))

abbrev pub place_members : Option Refusal → List ℕ
place_members None = []
place_members (Some refusal) = members_at (field_text refusal.place.field) refusal.place.offset

-- of bytes that are one SEQUENCE
abbrev pub fault_members : Option Kind → List ℕ → Fault → List ℕ
fault_members kind bytes fault = if is_whole fault then place_members (refusal_for kind bytes) else []
