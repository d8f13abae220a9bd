use Rattle.x509_object_run.specs.Program.{writes}
use Rattle.x509_object_run.proofs.Readings.{alone, flushed, not_one, several}
use Rattle.x509_object_run.proofs.lines.do_pending.Goals as goal

pub returns-in-Some : goal.returns-in-Some
returns-in-Some g c = λ items first told.
    alone g.P.Printer.program.name (g.P.Printer.subject c.args.printer.now) (writes g.W.Sink.takes g.E.Sink.takes g.E.Console.counts) c.args.label.now c.args.headed items _ _ _ _ _ first _ _ told c.in-Some.ensures.0 c.in-Some.ensures.1 c.do_item.ensures

pub returns-in-None : goal.returns-in-None
returns-in-None g c = λ items first told.
    several g.P.Printer.program.name (g.P.Printer.subject c.args.printer.now) (writes g.W.Sink.takes g.E.Sink.takes g.E.Console.counts) c.args.label.now c.args.headed items _ first _
    (not_one g.P.Printer.program.name (g.P.Printer.subject c.args.printer.now) (writes g.W.Sink.takes g.E.Sink.takes g.E.Console.counts) c.args.label.now items _ _ _ first _ told c.in-None.ensures)
    (flushed g.P.Printer.program.name (g.P.Printer.subject c.args.printer.now) (writes g.W.Sink.takes g.E.Sink.takes g.E.Console.counts) c.args.label.now items _ _ _ _ _ first _ _ told c.tell_item.ensures).1
