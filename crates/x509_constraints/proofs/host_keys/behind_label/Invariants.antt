use Rattle.std.proofs.Common.{◌≡◌, false, length}
use Rattle.x509_constraints.specs.Keys as keys
use Rattle.x509_constraints.proofs.host_keys.behind_label.Given as goal

abbrev pub invariant-loop-left : goal.invariant-loop-left
invariant-loop-left l = keys.behind_label l.begun l.left ≡ keys.behind_label false l.subtree

abbrev pub decreases-loop-left : goal.decreases-loop-left
decreases-loop-left l = length l.left
