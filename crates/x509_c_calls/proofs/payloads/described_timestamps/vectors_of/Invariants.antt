use Rattle.std.proofs.Common.{◌≡◌, map, take}
use Rattle.x509_c_calls.proofs.payloads.described_timestamps.vectors_of.Given as goal

abbrev pub invariant-loop-piece : goal.invariant-loop-piece
invariant-loop-piece l = l.vectors.items ≡ map (λ piece. piece.now) (take l.piece-index l.pieces)
