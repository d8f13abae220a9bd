use Rattle.std.proofs.Common.{sym, ◌∙◌}
use Rattle.x509_show.proofs.Lines.{signed_written, undecodable_written}
use Rattle.x509_show.proofs.timestamps.write_line.Goals as goal

pub returns-in-Ok-signed_input : goal.returns-in-Ok-signed_input
returns-in-Ok-signed_input g c =
    signed_written g.W.Sink.takes c.args.entry.now c.args.sct.now c.args.writer.now c.write_signed.new.writer c.in-Ok.timestamp c.in-Ok-signed_input.octets.items c.write_signed.result
    c.in-Ok.ensures.found c.in-Ok-signed_input.ensures.ok (rw c.as_slice.ensures.value at c.write_signed.ensures)

pub returns : goal.returns
returns g c =
    undecodable_written g.W.Sink.takes c.args.entry.now c.args.sct.now c.args.writer.now c.write_undecodable.new.writer c.in-Err.e c.write_undecodable.result
    (sym c.is_memory.ensures ∙ c.if-is_memory.false) c.in-Err.ensures c.write_undecodable.ensures
