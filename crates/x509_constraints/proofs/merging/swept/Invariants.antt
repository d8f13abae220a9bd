use Rattle.std.proofs.Common.{length}
use Rattle.x509_constraints.specs.Merging.{merge}
use Rattle.x509_constraints.proofs.Sweep.{IsSwept}
use Rattle.x509_constraints.proofs.merging.swept.Given as goal

abbrev pub invariant-loop-key : goal.invariant-loop-key
invariant-loop-key l = IsSwept (merge l.fn.left.items l.fn.right.items) l.kept.items (merge l.lefts.items l.rights.items)

abbrev pub decreases-loop-key : goal.decreases-loop-key
decreases-loop-key l = length (merge l.lefts.items l.rights.items)
