use Rattle.std.proofs.Common.{◌≡◌, take}
use Rattle.x509_policy.specs.Edges as edges
use Rattle.x509_policy.specs.Edges.{leads_of, expectation_of}
use Rattle.x509_policy.specs.Values.{has}
use Rattle.x509_policy.proofs.level.unmapped_leads.Given as goal

abbrev pub invariant-loop-lead : goal.invariant-loop-lead
invariant-loop-lead l = leads_of l.left.items ≡ edges.unmapped_leads (has l.issuers) (leads_of (take l.lead-index l.leads))
