use Rattle.std.proofs.Common.{◌∙◌, sym}
use Rattle.x509_object_run.specs.Program.{writes}
use Rattle.x509_object_run.proofs.Readings.{flushed, flushed_none}
use Rattle.x509_object_run.proofs.lines.flush.Goals as goal

pub returns-in-Some : goal.returns-in-Some
returns-in-Some g c = λ items first told.
    flushed g.P.Printer.program.name (g.P.Printer.subject c.args.printer.now) (writes g.W.Sink.takes g.E.Sink.takes g.E.Console.counts) c.args.label.now items _ _ _ _ _ first _ _ (rw (sym c.take.ensures.value ∙ c.in-Some.is) at told) c.tell_item.ensures

pub returns-in-None : goal.returns-in-None
returns-in-None g c = λ items first told.
    flushed_none g.P.Printer.program.name (g.P.Printer.subject c.args.printer.now) (writes g.W.Sink.takes g.E.Sink.takes g.E.Console.counts) c.args.label.now items _ _ first _ (rw (sym c.take.ensures.value ∙ c.in-None.is) at told)
