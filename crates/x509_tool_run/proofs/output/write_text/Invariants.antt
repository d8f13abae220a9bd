use Rattle.std.proofs.Common.{◌≡◌, ℕ, List, ◌++◌, length}
use Rattle.x509_tool_run.specs.Program.{IsWritten}
use Rattle.x509_tool_run.proofs.output.write_text.Given as goal

-- what was written and what is left make the text
abbrev pub invariant-loop-rest : goal.invariant-loop-rest
invariant-loop-rest g l =
    (front : List ℕ) × IsWritten g.W.Sink.takes l.fn.writer front l.writer × (l.text ≡ front ++ l.rest)

abbrev pub decreases-loop-rest : goal.decreases-loop-rest
decreases-loop-rest g l = length l.rest
