use Rattle.std.proofs.Common.{◌≡◌, length}
use Rattle.x509_lint_web.specs.Subject.{highest}
use Rattle.x509_lint_web.proofs.orders.highest.Given as goal

abbrev pub invariant-loop-attributes : goal.invariant-loop-attributes
invariant-loop-attributes l = highest l.reached l.attributes ≡ highest l.place l.initial.attributes

abbrev pub decreases-loop-attributes : goal.decreases-loop-attributes
decreases-loop-attributes l = length l.attributes
