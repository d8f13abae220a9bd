use Rattle.x509_policy.proofs.Sets.{strictly_once}
use Rattle.x509_policy.proofs.set.PolicySet.into_vec.Goals as goal

pub returns-clause-once : goal.returns-clause-once
returns-clause-once c = strictly_once c.self.inside.policies.items c.self.invariant
