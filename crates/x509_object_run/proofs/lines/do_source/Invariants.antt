use Rattle.std.proofs.Common.{ℕ, List}
use Rattle.x509_object_run.specs.Program.{outputs, writes}
use Rattle.x509_object_run.specs.Reading.{IsHeld}
use Rattle.x509_tool_run.specs.Transfer.{Moves}
use Rattle.x509_object_run.proofs.lines.do_source.Given as goal

-- so many reads gave bytes, of which this is held
abbrev pub invariant-loop-reads : goal.invariant-loop-reads
invariant-loop-reads g l =
    (bytes : List ℕ) × Moves g.R.Source.gives l.fn.reader l._reads bytes l.reader
    × IsHeld g.P.Printer.program.name (g.P.Printer.subject l.printer) (writes g.W.Sink.takes g.E.Sink.takes g.E.Console.counts) l.label (outputs l.fn.writer l.fn.errors) bytes l.held (outputs l.writer l.errors)
