use Rattle.std.proofs.Common.{◌≡◌, ◌++◌, List, length}
use Rattle.x509_ext.specs.declared.pkix.distribution_point.DistributionPoint.{DistributionPoint}
use Rattle.x509_revocation.specs.LentSides.{LendsSides}
use Rattle.x509_revocation.specs.Points.{Gathers, Sides}
use Rattle.x509_revocation.proofs.points.Sides.gather.Given as goal

-- those that were gone over stand behind those that are left
abbrev pub invariant-loop-rest : goal.invariant-loop-rest
invariant-loop-rest l = (behind : List DistributionPoint) × (l.points ≡ l.rest ++ behind) × ((sides : Sides) → LendsSides l.self sides → Gathers sides behind l.gathered)

abbrev pub decreases-loop-rest : goal.decreases-loop-rest
decreases-loop-rest l = length l.rest
