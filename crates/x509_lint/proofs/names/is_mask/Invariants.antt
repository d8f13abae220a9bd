use Rattle.std.proofs.Common.{◌≡◌, length}
use Rattle.x509_lint.specs.Constraint.{is_mask}
use Rattle.x509_lint.proofs.names.is_mask.Given as goal

abbrev pub invariant-loop-octets : goal.invariant-loop-octets
invariant-loop-octets l = is_mask l.octets ≡ is_mask l.initial.octets

abbrev pub decreases-loop-octets : goal.decreases-loop-octets
decreases-loop-octets l = length l.octets
