use Rattle.std.proofs.Common.{◌≡◌, ◌++◌, ℕ, List, Ok, map}
use Rattle.x509_object_run.specs.Object.{Item}
use Rattle.x509_object_run.specs.Objects.{AreLeft, octets_left}
use Rattle.x509_object_run.specs.Program.{Outputs, outputs, writes}
use Rattle.x509_object_run.specs.Reading.{AreTallied}
use Rattle.x509_object_run.specs.SignedData.{objects_of}
use Rattle.x509_object_run.proofs.lines.tell_objects.Given as goal

-- of the objects those in front are told of, and these are left
abbrev pub invariant-loop-object : goal.invariant-loop-object
invariant-loop-object g l =
    (told : List (List ℕ)) × (left : List (List ℕ)) × (objects_of l.bytes ≡ told ++ left) × AreLeft l.objects left
    × ((done : List Item) → (first : Outputs g.row.W.Denot g.row.E.Denot)
    → AreTallied g.P.Printer.program.name (g.P.Printer.subject l.printer) (writes g.W.Sink.takes g.E.Sink.takes g.E.Console.counts) l.label done l.fn.shown.count l.fn.shown.worst first (outputs l.fn.writer l.fn.errors)
    → AreTallied g.P.Printer.program.name (g.P.Printer.subject l.printer) (writes g.W.Sink.takes g.E.Sink.takes g.E.Console.counts) l.label (done ++ map (λ object. Ok object) told) l.shown.count l.shown.worst first (outputs l.writer l.errors))

abbrev pub decreases-loop-object : goal.decreases-loop-object
decreases-loop-object g l = octets_left l.objects
