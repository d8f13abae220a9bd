use Rattle.x509_der.proofs.SetOrders.{as_encoded}
use Rattle.x509_der.proofs.set.SetOfVec.into_vec.Goals as goal

pub returns-clause-sorted : goal.returns-clause-sorted
returns-clause-sorted g c = as_encoded _ _ g.met.T.SetMember.in_der_order _ (rw (← c.self.view_is) c.self.invariant)
