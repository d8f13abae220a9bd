use Rattle.std.proofs.Common.{inr}
use Rattle.x509_object_run.specs.Program.{items_from, writes}
use Rattle.x509_object_run.proofs.Readings.{last_read, still_kept, unfinished}
use Rattle.x509_object_run.proofs.lines.finish.Goals as goal

pub returns-in-Ok : goal.returns-in-Ok
returns-in-Ok g c = λ bytes first held.
    let mark = rw c.as_slice.ensures.value at c.in-Ok.ensures.mark in
    let told = rw c.as_slice.ensures.value at c.in-Ok.ensures.told in
    let read = last_read g.P.Printer.program.name (g.P.Printer.subject c.args.printer.now) (writes g.W.Sink.takes g.E.Sink.takes g.E.Console.counts) c.args.label.now first bytes c.args.held.line.items _ _ _ _ _ _ _ _ _ _ held.0 mark (λ lines at so. told lines first at so) in
    c.finish_read.ensures bytes first read.0 read.1 (still_kept _ _ c.args.held.line.items c.args.held.kept.items bytes mark held.1)

pub returns-in-Err : goal.returns-in-Err
returns-in-Err g c = λ bytes first held.
    let front = unfinished g.P.Printer.program.name (g.P.Printer.subject c.args.printer.now) (writes g.W.Sink.takes g.E.Sink.takes g.E.Console.counts) c.args.label.now first bytes c.args.held.line.items _ _ _ _ _ held.0 in
    inr (front.0, front.1, front.2, c.stop.ensures (items_from front.0) first (rw (c.in-Err.ensures.shown, c.in-Err.ensures.unwritten) front.3))
