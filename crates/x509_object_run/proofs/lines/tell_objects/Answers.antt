use Rattle.std.proofs.Common.{refl}
use Rattle.x509_object_run.specs.Program.{writes}
use Rattle.x509_object_run.specs.SignedData.{objects_of}
use Rattle.x509_object_run.proofs.Readings.{object_told, objects_told}
use Rattle.x509_object_run.proofs.lines.tell_objects.Goals as goal

pub loop-object-preserved : goal.loop-object-preserved
loop-object-preserved g c =
    let so = c.loop-object.invariant in
    object_told g.P.Printer.program.name (g.P.Printer.subject c.args.printer.now) (writes g.W.Sink.takes g.E.Sink.takes g.E.Console.counts) c.args.label.now (objects_of c.args.bytes.now) so.0 so.1 _ c.next.new.self _ _ _ _ _ _ _ _ _ so.2 (c.in-Some.ensures.taken so.1 so.3) so.4 c.tell_object.ensures

pub returns : goal.returns
returns g c =
    let so = c.loop-object.invariant in
    objects_told g.P.Printer.program.name (g.P.Printer.subject c.args.printer.now) (writes g.W.Sink.takes g.E.Sink.takes g.E.Console.counts) c.args.label.now (objects_of c.args.bytes.now) so.0 so.1 _ c.next.new.self _ _ _ _ _ _ so.2 (c.in_default.ensures.taken so.1 so.3) refl so.4
