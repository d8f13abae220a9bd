use Rattle.std.proofs.Common.{arith}
use Rattle.x509_match.proofs.Partners.{count_more}
use Rattle.x509_match.proofs.names.count_matching.Goals as goal

pub loop-attribute-preserved : goal.loop-attribute-preserved
loop-attribute-preserved c = record {
  count = count_more _ _ _ _ _ _ _ c.loop-attribute-test.true c.attribute-item.is c.in_ok-matches.ensures.same c.loop-attribute.invariant.count c.with_one_more-count.ensures.value;
  within = omega (arith, c.with_one_more-count.ensures.at_most, c.loop-attribute.invariant.within);
}
