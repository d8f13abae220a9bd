use Rattle.std.proofs.Common.{◌≡◌, ◌++◌, ◌≤◌, length, drop}
use Rattle.x509_constraints.specs.Keys.{turned}
use Rattle.x509_constraints.proofs.host_keys.push_turned.Given as goal

abbrev pub invariant-loop-left : goal.invariant-loop-left
invariant-loop-left l = (l.left ≤ length l.host) × (l.key ≡ l.initial.key ++ turned (drop l.left l.host))

abbrev pub decreases-loop-left : goal.decreases-loop-left
decreases-loop-left l = l.left
