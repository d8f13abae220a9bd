use Rattle.std.proofs.Common.{◌++◌}
use Rattle.x509_object_run.specs.Program.{writes}
use Rattle.x509_object_run.proofs.Readings.{fed_up}
use Rattle.x509_object_run.proofs.lines.feed.Goals as goal

pub returns-then-is_over-clause-stopped : goal.returns-then-is_over-clause-stopped
returns-then-is_over-clause-stopped g c = λ bytes first held.
    fed_up g.P.Printer.program.name (g.P.Printer.subject c.args.printer.now) (writes g.W.Sink.takes g.E.Sink.takes g.E.Console.counts) c.args.label.now first (bytes ++ c.args.chunk.now) c.read_chunk.new.held _ (c.in-Ok.ensures.read bytes first held)
    (rw (c.as_slice.ensures.value, c.as_slice-in-Ok.ensures.value) at (c.is_over.ensures c.if-is_over.true))

pub returns-in-Err-clause-stopped : goal.returns-in-Err-clause-stopped
returns-in-Err-clause-stopped g c = λ bytes first held. let front = c.in-Err.ensures.unread bytes first held in (front.0, front.1, front.2, tt, front.3)
