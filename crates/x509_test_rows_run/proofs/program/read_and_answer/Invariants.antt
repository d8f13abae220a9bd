use Rattle.std.proofs.Common.{◌≡◌, List, ℕ, []}
use Rattle.x509_tool_run.specs.Transfer.{Moves}
use Rattle.x509_test_rows_run.specs.Lines.{Stands}
use Rattle.x509_test_rows_run.proofs.program.read_and_answer.Given as goal

-- so many reads, each of at least one byte, gave an input, the lines of which are answered
abbrev pub invariant-loop-reads : goal.invariant-loop-reads
invariant-loop-reads g l =
    (input : List ℕ) × Moves g.R.Source.gives l.fn.reader l._reads input l.reader
    × (l.fn.held.items ≡ [] → Stands g.C.Codec.reencodes g.W.Sink.takes l.fn.writer input l.line.kept.items l.line.fault l.held.items l.writer)
