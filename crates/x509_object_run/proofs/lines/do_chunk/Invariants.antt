use Rattle.std.proofs.Common.{◌≡◌, ℕ, List, true, length}
use Rattle.x509_object_run.specs.Program.{Outputs, outputs, writes}
use Rattle.x509_object_run.specs.Reading.{IsUnderway, IsWithin, pending_of}
use Rattle.x509_tool_run.specs.Scan.{is_pem, mark_of}
use Rattle.x509_object_run.proofs.lines.do_chunk.Given as goal

-- the lines so far are read, and these octets are left
abbrev pub invariant-loop-at : goal.invariant-loop-at
invariant-loop-at g l = record {
  read : (bytes : List ℕ) → (first : Outputs g.row.W.Denot g.row.E.Denot)
      → IsUnderway g.P.Printer.program.name (g.P.Printer.subject l.printer) (writes g.W.Sink.takes g.E.Sink.takes g.E.Console.counts) l.label first bytes l.fn.line.items (mark_of l.fn.scan)
      (pending_of l.fn.shown) l.fn.shown.count l.fn.shown.worst (outputs l.fn.writer l.fn.errors)
      → IsWithin g.P.Printer.program.name (g.P.Printer.subject l.printer) (writes g.W.Sink.takes g.E.Sink.takes g.E.Console.counts) l.label first bytes l.chunk l.rest l.line.items (mark_of l.scan)
      (pending_of l.shown) l.shown.count l.shown.worst (outputs l.writer l.errors);
  stays : is_pem l.fn.scan.stage ≡ true → is_pem l.scan.stage ≡ true;
}

abbrev pub decreases-loop-at : goal.decreases-loop-at
decreases-loop-at g l = length l.rest
