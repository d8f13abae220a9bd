use Rattle.std.proofs.Common.{◌≡◌, ◌++◌, map, take}
use Rattle.x509_policy.specs.Edges as edges
use Rattle.x509_policy.specs.Edges.{leads_of, expectation_of}
use Rattle.x509_policy.specs.Values.{has}
use Rattle.x509_policy.proofs.level.push_followers.Given as goal

abbrev pub invariant-loop-expectation : goal.invariant-loop-expectation
invariant-loop-expectation l = leads_of l.leads.items ≡ leads_of l.fn.leads.items ++ edges.followers (has l.policies) l.all (map expectation_of (take l.expectation-index l.above))
