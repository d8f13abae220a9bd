-- A run of which a summary is printed.
use Rattle.std.specs.Prelude.{◌≡◌, ◌⊎◌, ℕ, List, [], ◌++◌, max, Option, Some, None}
use Rattle.x509_linter.specs.Linter.{program}
use Rattle.x509_linter.specs.Summary.{summary}
use Rattle.x509_linter.specs.declared.count.Kept.{Kept}
use Rattle.x509_object_run.specs.Faults.{fault_text, short_complaint}
use Rattle.x509_object_run.specs.Object.{Steps, Subject}
use Rattle.x509_object_run.specs.Program.{AreNamedDone, IsTold, Outputs, Says, Streams, World, Writes, outputs, streams, world_of, writes}
use Rattle.x509_object_run.specs.declared.fault.Fault.TheVariants.{Memory}

-- octets are kept behind those before, or there is no memory for them
abbrev pub Keeps : Kept → Option (List ℕ) → Kept → Type 0
Keeps old (Some bytes) new = new.text.items ≡ old.text.items ++ bytes
Keeps old None new = new.text.items ≡ old.text.items

-- a summary of a text is printed with the status of the run, or with 2 where it can't be; or there is no memory for it
abbrev pub IsSummedUp : {W E : Type 0} → Writes W E → List ℕ → ℕ → Outputs W E → Outputs W E → ℕ → Type 0
IsSummedUp by text first old new status =
    ((said : ℕ) × Says program.name by.takes by.takes_errors (summary text) old.output new.output old.errors new.errors said × (status ≡ max first said))
    ⊎ ((new.output ≡ old.output) × IsTold by.takes_errors old.errors (short_complaint program.name (fault_text [] Memory)) new.errors × (status ≡ 2))

-- what a printer prints of inputs is kept, and summed up
abbrev pub IsCounted : {R F W E : Type 0} → World R F W E → Subject → List (List ℕ) → Streams R W E → Streams R W E → ℕ → Type 0
IsCounted {E = E} world subject inputs old new status =
    (empty : Kept) × (kept : Kept) × (errors : E) × (first : ℕ)
    × (empty.text.items ≡ [])
    × AreNamedDone program subject (world_of world.gives world.opens world.lists world.stands world.file_gives Keeps world.takes_errors world.counts) inputs
    (streams old.input empty old.errors) (streams new.input kept errors) first
    × IsSummedUp (writes world.takes world.takes_errors world.counts) kept.text.items first (outputs old.output errors) (outputs new.output new.errors) status
