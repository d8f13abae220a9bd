use Rattle.std.proofs.Common.{map}
use Rattle.x509_c_calls.proofs.Cuts.{Cut}
use Rattle.x509_c_calls.proofs.path.pieces.cut.Given as goal

abbrev pub invariant-loop-len : goal.invariant-loop-len
invariant-loop-len l = Cut l.bytes l.lens l.len-index (map (λ piece. piece.now) l.pieces.items) l.rest
