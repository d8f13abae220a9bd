use Rattle.std.proofs.Common.{length}
use Rattle.x509_crl_index.proofs.SerialWalks.{Walk}
use Rattle.x509_crl_index.proofs.serials.serials_of.Given as goal

abbrev pub invariant-loop-piece : goal.invariant-loop-piece
invariant-loop-piece l = Walk l.numbers.items l.rest l.octets

abbrev pub decreases-loop-piece : goal.decreases-loop-piece
decreases-loop-piece l = length l.rest
