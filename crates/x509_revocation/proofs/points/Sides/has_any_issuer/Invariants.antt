use Rattle.std.proofs.Common.{◌↔◌, length}
use Rattle.x509_revocation.specs.Faults.{HasAnyIssuer}
use Rattle.x509_revocation.specs.LentSides.{LendsSides}
use Rattle.x509_revocation.specs.Points.{Sides}
use Rattle.x509_revocation.proofs.points.Sides.has_any_issuer.Given as goal

-- one of the points that are left is for the issuer exactly where one of all is
abbrev pub invariant-loop-rest : goal.invariant-loop-rest
invariant-loop-rest l = (sides : Sides) → LendsSides l.self sides → HasAnyIssuer sides l.rest ↔ HasAnyIssuer sides l.points

abbrev pub decreases-loop-rest : goal.decreases-loop-rest
decreases-loop-rest l = length l.rest
