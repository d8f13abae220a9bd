use Rattle.std.proofs.Common.{◌≡◌, length}
use Rattle.x509_prim.specs.Integer.{number}
use Rattle.x509_revocation.proofs.numbers.is_zero.Given as goal

abbrev pub invariant-loop-rest : goal.invariant-loop-rest
invariant-loop-rest l = number l.octets ≡ number l.rest

abbrev pub decreases-loop-rest : goal.decreases-loop-rest
decreases-loop-rest l = length l.rest
