use Rattle.std.proofs.Common.{◌≡◌, ◌++◌, string_bytes}
use Rattle.x509_text.specs.Pieces.{left, steps}
use Rattle.x509_text.proofs.pieces.CrlPieces.join.Given as goal

-- what came and what is still to come make the document
abbrev pub invariant-loop-text : goal.invariant-loop-text
invariant-loop-text l = left l.fn.self ≡ string_bytes l.text ++ left l.self

abbrev pub decreases-loop-text : goal.decreases-loop-text
decreases-loop-text l = steps l.self
