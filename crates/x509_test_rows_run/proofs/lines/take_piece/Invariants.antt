use Rattle.std.proofs.Common.{◌≡◌, List, ℕ, ◌++◌, length}
use Rattle.x509_test_rows_run.proofs.Answering.{Carries}
use Rattle.x509_test_rows_run.proofs.lines.take_piece.Given as goal

-- the lines that end in the bytes so far are answered
abbrev pub invariant-loop-at : goal.invariant-loop-at
invariant-loop-at g l =
    (done : List ℕ) × (l.piece ≡ done ++ l.rest)
    × Carries g.C.Codec.reencodes g.W.Sink.takes l.fn.line.kept.items l.fn.line.fault l.fn.held.items l.fn.writer done l.line.kept.items l.line.fault l.held.items l.writer

abbrev pub decreases-loop-at : goal.decreases-loop-at
decreases-loop-at g l = length l.rest
