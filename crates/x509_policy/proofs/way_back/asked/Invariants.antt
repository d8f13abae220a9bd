use Rattle.std.proofs.Common.{◌≡◌, take}
use Rattle.x509_policy.specs.Edges as edges
use Rattle.x509_policy.specs.Values.{has}
use Rattle.x509_policy.specs.Views.{octets_of}
use Rattle.x509_policy.proofs.way_back.asked.Given as goal

abbrev pub invariant-loop-policy : goal.invariant-loop-policy
invariant-loop-policy l = octets_of l.found.items ≡ edges.asked (octets_of (take l.policy-index l.user)) (has l.leading)
