use Rattle.x509_object_run.specs.Program.{writes}
use Rattle.x509_object_run.proofs.Readings.{tallied}
use Rattle.x509_object_run.proofs.lines.tell_object.Goals as goal

pub returns : goal.returns
returns g c = λ done first so.
    rw (c.saturating_add-number.ensures, c.max-shown.ensures)
    (tallied g.P.Printer.program.name (g.P.Printer.subject c.args.printer.now) (writes g.W.Sink.takes g.E.Sink.takes g.E.Console.counts) c.args.label.now done _ c.args.shown.now.count c.args.shown.now.worst c.do_numbered-status.result first _ _ so (rw c.saturating_add-number.ensures at c.do_numbered-status.ensures))
