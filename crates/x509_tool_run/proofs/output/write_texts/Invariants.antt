use Rattle.std.proofs.Common.{take}
use Rattle.std.specs.List.{flat_map}
use Rattle.x509_tool_run.specs.Program.{IsWritten}
use Rattle.x509_tool_run.proofs.output.write_texts.Given as goal

-- the texts so far are written
abbrev pub invariant-loop-text : goal.invariant-loop-text
invariant-loop-text g l = IsWritten g.W.Sink.takes l.fn.writer (flat_map (λ text. text.now) (take l.text-index l.texts)) l.writer
