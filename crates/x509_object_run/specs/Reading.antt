-- How far the reading of an input is.
use Rattle.std.specs.Prelude.{◌≡◌, ◌⊎◌, ℕ, false, List, [], ◌++◌, length, Option, Some, None}
use Rattle.std.specs.List.{All}
use Rattle.std.specs.Option.{option_map}
use Rattle.std.specs.Result.{result_map_both}
use Rattle.x509_object_run.specs.Object.{Item, Subject, objects_of_item}
use Rattle.x509_object_run.specs.Program.{AreCutShort, AreItemsDone, AreNumberedDone, IsOver, Outputs, Writes, input_items, items_from, number_of}
use Rattle.x509_object_run.specs.declared.fault.Fault.{Fault}
use Rattle.x509_object_run.specs.declared.fault.Fault.TheVariants.{Unopened, Unreadable, TooLong, Unarmoured, NoObject, Unwritten, Memory}
use Rattle.x509_object_run.specs.declared.heading.Headed.{Headed}
use Rattle.x509_object_run.specs.declared.lines.Held.{Held}
use Rattle.x509_object_run.specs.declared.lines.Shown.{Shown}
use Rattle.x509_tool_run.specs.Pem.{ends_line, lines_of}
use Rattle.x509_tool_run.specs.Scan.{Mark, is_pem, mark_from, mark_of, start}

-- Objects of several are done; there are so many, as a number of the machine, and this is the greatest of their statuses.
abbrev pub AreTallied : {W E : Type 0} → List ℕ → Subject → Writes W E → List ℕ → List Item → ℕ → ℕ → Outputs W E → Outputs W E → Type 0
AreTallied program subject by label done count worst old new =
    (count ≡ number_of (length done)) × AreNumberedDone program subject by label 0 done old new worst

-- Of the objects of items those before the last item are done, which is pending.
abbrev pub AreTold : {W E : Type 0} → List ℕ → Subject → Writes W E → List ℕ → List Item → Option Item → ℕ → ℕ → Outputs W E → Outputs W E → Type 0
AreTold program subject by label items None count worst old new = (items ≡ []) × (count ≡ 0) × (worst ≡ 0) × (new ≡ old)
AreTold program subject by label items (Some item) count worst old new =
    (done : List Item) × (items ≡ done ++ objects_of_item item) × AreTallied program subject by label done count worst old new

-- the item that is pending
abbrev pub pending_of : Shown → Option Item
pending_of shown = option_map (λ item. result_map_both (λ bytes. bytes.items) (λ fault. fault) item) shown.pending

-- These lines of bytes are whole, whatever comes behind, and this line isn't ended, behind which these octets stand already.
pub record IsSplit (bytes ahead : List ℕ) (lines : List (List ℕ)) (line rest : List ℕ) : Type 0 where
  pub so : (future : List ℕ) → lines_of (bytes ++ (ahead ++ future)) ≡ lines ++ lines_of (line ++ (rest ++ future))
  pub unended : All (λ octet. ends_line octet ≡ false) line

-- Of the lines of bytes, and of these ahead of them of which the rest is left, those that are whole are read; and this is told of them.
abbrev pub IsWithin : {W E : Type 0} → List ℕ → Subject → Writes W E → List ℕ → Outputs W E → List ℕ → List ℕ → List ℕ → List ℕ → Mark → Option Item → ℕ → ℕ → Outputs W E → Type 0
IsWithin program subject by label first bytes ahead rest line mark pending count worst new =
    (lines : List (List ℕ)) × IsSplit bytes ahead lines line rest × (mark ≡ mark_from start lines)
    × AreTold program subject by label (items_from lines) pending count worst first new

-- nothing is ahead
abbrev pub IsUnderway : {W E : Type 0} → List ℕ → Subject → Writes W E → List ℕ → Outputs W E → List ℕ → List ℕ → Mark → Option Item → ℕ → ℕ → Outputs W E → Type 0
IsUnderway program subject by label first bytes line mark pending count worst new = IsWithin program subject by label first bytes [] [] line mark pending count worst new

-- the first lines of bytes are told of
abbrev pub IsFrontTold : {W E : Type 0} → List ℕ → Subject → Writes W E → List ℕ → Outputs W E → List ℕ → Option Item → ℕ → ℕ → Outputs W E → Type 0
IsFrontTold program subject by label first bytes pending count worst new =
    (lines : List (List ℕ)) × (others : List (List ℕ)) × (lines_of bytes ≡ lines ++ others)
    × AreTold program subject by label (items_from lines) pending count worst first new

-- all that is held of bytes: themselves where they are no PEM
abbrev pub IsHeld : {W E : Type 0} → List ℕ → Subject → Writes W E → List ℕ → Outputs W E → List ℕ → Held → Outputs W E → Type 0
IsHeld program subject by label first bytes held new =
    IsUnderway program subject by label first bytes held.line.items (mark_of held.scan) (pending_of held.shown) held.shown.count held.shown.worst new
    × (is_pem held.scan.stage ≡ false → held.kept.items ≡ bytes)

-- nothing is read
abbrev pub IsNothing : Held → Type 0
IsNothing held =
    (held.kept.items ≡ []) × (held.line.items ≡ []) × (mark_of held.scan ≡ start)
    × (held.shown.pending ≡ None) × (held.shown.count ≡ 0) × (held.shown.worst ≡ 0)

-- why no more is read
abbrev pub IsReason : List ℕ → List (List ℕ) → List (List ℕ) → Fault → Type 0
IsReason bytes lines others Memory = Unit {0}
IsReason bytes lines others TooLong = IsOver bytes lines others
IsReason bytes lines others Unreadable = ⊥
IsReason bytes lines others (Unopened e) = ⊥
IsReason bytes lines others (Unarmoured why) = ⊥
IsReason bytes lines others (NoObject looks) = ⊥
IsReason bytes lines others Unwritten = ⊥

-- the first lines of bytes are told of, and no more is read
abbrev pub IsFedUp : {W E : Type 0} → List ℕ → Subject → Writes W E → List ℕ → Outputs W E → List ℕ → Fault → Held → Outputs W E → Type 0
IsFedUp program subject by label first bytes fault held new =
    (lines : List (List ℕ)) × (others : List (List ℕ)) × (lines_of bytes ≡ lines ++ others) × IsReason bytes lines others fault
    × AreTold program subject by label (items_from lines) (pending_of held.shown) held.shown.count held.shown.worst first new

-- the items of bytes are done; or those of their first lines, and then memory is refused
abbrev pub IsFinished : {W E : Type 0} → List ℕ → Subject → Writes W E → Headed → List ℕ → List ℕ → Outputs W E → Outputs W E → ℕ → Type 0
IsFinished program subject by headed label bytes first new status =
    AreItemsDone program subject by headed label (input_items bytes) first new status
    ⊎ ((lines : List (List ℕ)) × (others : List (List ℕ)) × (lines_of bytes ≡ lines ++ others)
    × AreCutShort program subject by headed label (items_from lines) Memory first new status)
