use Rattle.x509_object_run.specs.Program.{writes}
use Rattle.x509_object_run.proofs.Readings.{held_fronts, on_err}
use Rattle.x509_object_run.proofs.lines.read_chunk.Goals as goal

pub returns-in_err-keep-clause-unread : goal.returns-in_err-keep-clause-unread
returns-in_err-keep-clause-unread g c = on_err _ (held_fronts g.P.Printer.program.name (g.P.Printer.subject c.args.printer.now) (writes g.W.Sink.takes g.E.Sink.takes g.E.Console.counts) c.args.label.now c.args.chunk.now c.args.held.now _)
