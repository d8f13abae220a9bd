use Rattle.std.proofs.Common.{◌≡◌, ◌++◌, take}
use Rattle.x509_policy.specs.Edges as edges
use Rattle.x509_policy.specs.Edges.{leads_of, expectation_of}
use Rattle.x509_policy.specs.Values.{has}
use Rattle.x509_policy.specs.Views.{octets_of}
use Rattle.x509_policy.proofs.level.push_below_any.Given as goal

abbrev pub invariant-loop-policy : goal.invariant-loop-policy
invariant-loop-policy l = leads_of l.leads.items ≡ leads_of l.fn.leads.items ++ edges.below_any (octets_of (take l.policy-index l.policies)) (has l.there)
