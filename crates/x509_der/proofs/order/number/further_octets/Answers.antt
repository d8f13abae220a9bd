use Rattle.std.proofs.Common.{arith}
use Rattle.x509_der.proofs.CountedLengths.{counted_first, counted_next, counted_last, counted_few}
use Rattle.x509_der.proofs.order.number.further_octets.Goals as goal

pub loop-rest-init : goal.loop-rest-init
loop-rest-init c = counted_first c.args.number (omega arith)

pub loop-rest-preserved : goal.loop-rest-preserved
loop-rest-preserved c = counted_next c.args.number c.loop-rest.count c.loop-rest.rest c.loop-rest-test.true c.loop-rest.invariant

pub returns : goal.returns
returns c = counted_last c.args.number c.loop-rest.count c.loop-rest.rest c.loop-rest-test.false c.loop-rest.invariant

pub overflow_add-count : goal.overflow_add-count
overflow_add-count c = let few = counted_few c.args.number c.loop-rest.count c.loop-rest.rest c.loop-rest.invariant in omega (arith, few)
