use Rattle.x509_show.proofs.Lines.{FirstWritten}
use Rattle.x509_show.proofs.timestamps.write_lines.Given as goal

-- the lines of the SCTs so far are written
abbrev pub invariant-loop-sct : goal.invariant-loop-sct
invariant-loop-sct g l = FirstWritten l.entry l.scts l.sct-index g.W.Sink.takes l.fn.writer l.writer
