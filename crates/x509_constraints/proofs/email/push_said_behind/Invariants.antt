use Rattle.std.proofs.Common.{◌≡◌, ◌++◌, false, length}
use Rattle.x509_constraints.specs.Email.{said_behind}
use Rattle.x509_constraints.specs.Keys.{symbols}
use Rattle.x509_constraints.proofs.email.push_said_behind.Given as goal

abbrev pub invariant-loop-left : goal.invariant-loop-left
invariant-loop-left l = l.key ++ symbols (said_behind l.escaped l.left) ≡ l.initial.key ++ symbols (said_behind false l.octets)

abbrev pub decreases-loop-left : goal.decreases-loop-left
decreases-loop-left l = length l.left
