use Rattle.std.proofs.Common.{◌≡◌, length}
use Rattle.x509_lint_web.specs.Subject.{is_disordered}
use Rattle.x509_lint_web.proofs.orders.is_disordered_from.Given as goal

abbrev pub invariant-loop-rdns : goal.invariant-loop-rdns
invariant-loop-rdns l = is_disordered l.reached l.rdns ≡ is_disordered l.place l.initial.rdns

abbrev pub decreases-loop-rdns : goal.decreases-loop-rdns
decreases-loop-rdns l = length l.rdns
