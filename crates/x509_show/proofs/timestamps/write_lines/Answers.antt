use Rattle.std.proofs.Common.{Ok, Err, subst}
use Rattle.x509_sct.specs.declared.serialized.SerializedSct.{SerializedSct}
use Rattle.x509_show.specs.Timestamps.{IsLineWritten}
use Rattle.x509_show.proofs.Lines.{first_further, stopped}
use Rattle.x509_show.proofs.timestamps.write_lines.Goals as goal

pub returns-in-Err : goal.returns-in-Err
returns-in-Err g c =
    let Written : SerializedSct → Type 0 = λ sct. IsLineWritten c.args.entry.now sct g.W.Sink.takes c.loop-sct.writer c.write_line.new.writer (Err c.in-Err.reason) in
    stopped g.W.Sink.takes c.args.entry.now c.args.scts.now c.loop-sct.sct-index c.sct-item.result c.args.writer.now c.loop-sct.writer c.write_line.new.writer
    c.loop-sct-test.true c.loop-sct.invariant c.in-Err.reason (subst Written c.sct-item.is c.in-Err.ensures)

pub loop-sct-preserved : goal.loop-sct-preserved
loop-sct-preserved g c =
    let Written : SerializedSct → Type 0 = λ sct. IsLineWritten c.args.entry.now sct g.W.Sink.takes c.loop-sct.writer c.write_line.new.writer (Ok tt) in
    first_further g.W.Sink.takes c.args.entry.now c.args.scts.now c.loop-sct.sct-index c.sct-item.result c.args.writer.now c.loop-sct.writer c.write_line.new.writer
    c.loop-sct-test.true c.loop-sct.invariant (subst Written c.sct-item.is c.in-Ok.ensures)
