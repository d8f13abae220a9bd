use Rattle.std.proofs.Common.{◌≡◌, take}
use Rattle.x509_policy.specs.Edges as edges
use Rattle.x509_policy.specs.Edges.{leads_of, expectation_of}
use Rattle.x509_policy.specs.Values.{has}
use Rattle.x509_policy.specs.Views.{octets_of}
use Rattle.x509_policy.proofs.way_back.parents.Given as goal

abbrev pub invariant-loop-lead : goal.invariant-loop-lead
invariant-loop-lead l = octets_of l.found.items ≡ edges.parents (has l.reached) (leads_of (take l.lead-index l.leads))
