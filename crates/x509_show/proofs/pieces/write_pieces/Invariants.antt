use Rattle.std.proofs.Common.{◌≡◌, ℕ, List, ◌++◌}
use Rattle.x509_object_run.specs.Object.{heading_text}
use Rattle.x509_text.specs.Pieces.{left, steps}
use Rattle.x509_tool_run.specs.Program.{IsWritten}
use Rattle.x509_show.proofs.pieces.write_pieces.Given as goal

-- what was written and what is still to come make the document under its heading
abbrev pub invariant-loop-piece : goal.invariant-loop-piece
invariant-loop-piece g l =
    (written : List ℕ) × IsWritten g.W.Sink.takes l.fn.writer written l.writer × (heading_text l.fn.heading ++ left l.fn.pieces ≡ written ++ left l.pieces)

abbrev pub decreases-loop-piece : goal.decreases-loop-piece
decreases-loop-piece g l = steps l.pieces
