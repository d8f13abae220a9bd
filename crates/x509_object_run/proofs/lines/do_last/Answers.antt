use Rattle.std.proofs.Common.{◌∙◌, sym}
use Rattle.x509_object_run.specs.Program.{writes}
use Rattle.x509_object_run.proofs.Readings.{nothing_done}
use Rattle.x509_object_run.proofs.lines.do_last.Goals as goal

pub returns-in-Some : goal.returns-in-Some
returns-in-Some g c = λ items first told. c.do_pending.ensures items first (rw (sym c.take.ensures.value ∙ c.in-Some.is) at told)

pub returns-in-None : goal.returns-in-None
returns-in-None g c = λ items first told.
    nothing_done g.P.Printer.program.name (g.P.Printer.subject c.args.printer.now) (writes g.W.Sink.takes g.E.Sink.takes g.E.Console.counts) c.args.label.now c.args.headed items _ _ first _ (rw (sym c.take.ensures.value ∙ c.in-None.is) at told)
