use Rattle.std.proofs.Common.{◌≡◌, Some, rules, subst, ◌++◌, ◌+◌, arith, take}
use Rattle.x509_object_run.specs.Program.{outputs, writes}
use Rattle.x509_object_run.proofs.Readings.{source_endless, source_fed_up, source_finished, source_unread}
use Rattle.x509_tool_run.proofs.Transfers.{Moves-counted, Moves-length}
use Rattle.x509_object_run.proofs.lines.do_source.Goals as goal

pub returns-in-Ok-eq0 : goal.returns-in-Ok-eq0
returns-in-Ok-eq0 g c =
    let bytes = c.loop-reads.invariant.0 in
    let zero : c.in-Ok-eq0.field-0 ≡ 0 = search rules in
    source_finished g.P.Printer.program.name (g.P.Printer.subject c.args.printer.now) (writes g.W.Sink.takes g.E.Sink.takes g.E.Console.counts) c.args.label.now (outputs c.args.writer.now c.args.errors.now) bytes g.R.Source.gives c.args.reader.now c.loop-reads.reader c.take_some.new.self c.args.headed _ _ (c.loop-reads._reads, c.loop-reads.invariant.1) (subst (λ n. g.R.Source.gives c.loop-reads.reader (Some (take n c.take_some.new.room)) c.take_some.new.self) zero c.in-Ok-eq0.ensures.gives)
    (c.finish.ensures bytes (outputs c.args.writer.now c.args.errors.now) c.loop-reads.invariant.2)

pub returns-in-Err-fed : goal.returns-in-Err-fed
returns-in-Err-fed g c =
    let bytes = c.loop-reads.invariant.0 in
    let more = take c.in-Ok.count c.take_some.new.room in
    let gave = Moves-counted g.R.Source.gives _ _ _ _ _ _ _ c.loop-reads.invariant.1 c.in-Ok.ensures.gives c.in-Ok.count-test.1 c.in-Ok.ensures.fits in
    source_fed_up g.P.Printer.program.name (g.P.Printer.subject c.args.printer.now) (writes g.W.Sink.takes g.E.Sink.takes g.E.Console.counts) c.args.label.now (outputs c.args.writer.now c.args.errors.now) (bytes ++ more) g.R.Source.gives c.args.reader.now c.take_some.new.self c.args.headed c.in-Err-fed.fault c.feed-fed.new.held _ _ _ (c.loop-reads._reads + 1, gave)
    (c.in-Err-fed.ensures.stopped bytes (outputs c.args.writer.now c.args.errors.now) c.loop-reads.invariant.2) c.stop.ensures

pub returns-in-Err : goal.returns-in-Err
returns-in-Err g c =
    source_unread g.P.Printer.program.name (g.P.Printer.subject c.args.printer.now) (writes g.W.Sink.takes g.E.Sink.takes g.E.Console.counts) c.args.label.now (outputs c.args.writer.now c.args.errors.now) c.loop-reads.invariant.0 g.R.Source.gives c.args.reader.now c.loop-reads.reader c.take_some.new.self c.args.headed c.loop-reads.held _ _ _ (c.loop-reads._reads, c.loop-reads.invariant.1) c.in-Err.ensures.gives c.loop-reads.invariant.2 c.stop-in-Err.ensures

pub loop-reads-preserved : goal.loop-reads-preserved
loop-reads-preserved g c =
    let bytes = c.loop-reads.invariant.0 in
    let more = take c.in-Ok.count c.take_some.new.room in
    let gave = Moves-counted g.R.Source.gives _ _ _ _ _ _ _ c.loop-reads.invariant.1 c.in-Ok.ensures.gives c.in-Ok.count-test.1 c.in-Ok.ensures.fits in
    (bytes ++ more, gave, c.in_default.ensures.read bytes (outputs c.args.writer.now c.args.errors.now) c.loop-reads.invariant.2)

pub returns : goal.returns
returns g c =
    let most = Moves-length g.R.Source.gives _ _ _ _ c.loop-reads.invariant.1 in
    source_endless g.P.Printer.program.name (g.P.Printer.subject c.args.printer.now) (writes g.W.Sink.takes g.E.Sink.takes g.E.Console.counts) c.args.label.now (outputs c.args.writer.now c.args.errors.now) c.loop-reads.invariant.0 g.R.Source.gives c.args.reader.now c.loop-reads.reader c.args.headed c.loop-reads.held _ _ _ (c.loop-reads._reads, c.loop-reads.invariant.1) (omega (arith, most, c.loop-reads-test.false)) c.loop-reads.invariant.2 c.stop-2.ensures
