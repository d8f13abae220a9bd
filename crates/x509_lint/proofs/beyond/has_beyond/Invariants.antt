use Rattle.std.proofs.Common.{◌≡◌, length}
use Rattle.x509_lint.specs.Beyond.{has_beyond}
use Rattle.x509_lint.proofs.beyond.has_beyond.Given as goal

abbrev pub invariant-loop-octets : goal.invariant-loop-octets
invariant-loop-octets l = has_beyond l.beyond l.octets ≡ has_beyond l.beyond l.initial.octets

abbrev pub decreases-loop-octets : goal.decreases-loop-octets
decreases-loop-octets l = length l.octets
