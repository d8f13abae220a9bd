use Rattle.std.proofs.Common.{◌≡◌, ◌∙◌, false, ap, inl, subst, sym}
use Rattle.x509_object_run.specs.Object.{text_bytes}
use Rattle.x509_object_run.specs.Program.{AreItemsDone, items_from, outputs, writes}
use Rattle.x509_object_run.proofs.Readings.{other_items}
use Rattle.x509_tool_run.specs.Pem.{lines_of}
use Rattle.x509_tool_run.specs.Scan.{is_pem, mark_of}
use Rattle.x509_object_run.proofs.lines.finish_read.Goals as goal

pub returns-in-Ok : goal.returns-in-Ok
returns-in-Ok g c = λ bytes first at told keeps.
    let none : is_pem c.args.scan.now.stage ≡ false = sym c.is_pem.ensures ∙ c.if-is_pem.false in
    let text : c.in-Ok.bytes.items ≡ text_bytes bytes = c.in-Ok.ensures ∙ ap text_bytes (keeps none) in
    inl
    (subst (λ items. AreItemsDone g.P.Printer.program.name (g.P.Printer.subject c.args.printer.now) (writes g.W.Sink.takes g.E.Sink.takes g.E.Console.counts) c.args.headed c.args.label.now items first (outputs c.do_last.new.writer c.do_last.new.errors) c.do_last.result)
    (other_items g.P.Printer.program.name (g.P.Printer.subject c.args.printer.now) (writes g.W.Sink.takes g.E.Sink.takes g.E.Console.counts) c.args.label.now first bytes (mark_of c.args.scan.now) c.in-Ok.bytes.items at none text)
    (c.do_last.ensures _ first (c.put_item.ensures (items_from (lines_of bytes)) first told)))
