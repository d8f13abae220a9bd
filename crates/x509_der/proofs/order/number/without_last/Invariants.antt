use Rattle.std.proofs.Common.{◌≡◌}
use Rattle.x509_der.specs.NumberOrder.{front}
use Rattle.x509_der.proofs.order.number.without_last.Given as goal

abbrev pub invariant-loop-left : goal.invariant-loop-left
invariant-loop-left l = front l.left l.rest ≡ front l.count l.number

abbrev pub decreases-loop-left : goal.decreases-loop-left
decreases-loop-left l = l.left
