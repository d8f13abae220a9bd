use Rattle.std.proofs.Common.{◌∙◌}
use Rattle.x509_der.proofs.CountedLengths.{front_next}
use Rattle.x509_der.proofs.order.number.without_last.Goals as goal

pub loop-left-preserved : goal.loop-left-preserved
loop-left-preserved c = front_next c.loop-left.left c.loop-left.rest c.loop-left-test.true ∙ c.loop-left.invariant
