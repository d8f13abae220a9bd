use Rattle.std.proofs.Common.{rules}
use Rattle.x509_der.proofs.SetOrders.{as_named, as_encoded}
use Rattle.x509_der.proofs.set.SetOfVec.insert.Goals as goal

pub put-requires : goal.put-requires
put-requires g c = (search rules, as_encoded _ _ g.met.T.SetMember.in_der_order _ c.self.invariant)

pub invariant_of-self : goal.invariant_of-self
invariant_of-self g c = as_named _ _ g.met.T.SetMember.in_der_order _ c.put.ensures.sorted
