use Rattle.std.proofs.Common.{◌≡◌, ◌++◌, map, take}
use Rattle.x509_policy.specs.Edges as edges
use Rattle.x509_policy.specs.Edges.{leads_of, expectation_of}
use Rattle.x509_policy.specs.Values.{has}
use Rattle.x509_policy.specs.Views.{octets_of}
use Rattle.x509_policy.proofs.level.push_selves.Given as goal

abbrev pub invariant-loop-policy : goal.invariant-loop-policy
invariant-loop-policy l = map expectation_of l.expectations.items ≡ map expectation_of l.fn.expectations.items ++ edges.selves (has l.issuers) (octets_of (take l.policy-index l.policies))
