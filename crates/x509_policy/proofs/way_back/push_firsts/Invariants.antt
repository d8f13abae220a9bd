use Rattle.std.proofs.Common.{◌≡◌, ◌++◌, take}
use Rattle.x509_policy.specs.Edges as edges
use Rattle.x509_policy.specs.Edges.{leads_of, expectation_of}
use Rattle.x509_policy.specs.Values.{has}
use Rattle.x509_policy.specs.Views.{octets_of}
use Rattle.x509_policy.proofs.way_back.push_firsts.Given as goal

abbrev pub invariant-loop-lead : goal.invariant-loop-lead
invariant-loop-lead l = octets_of l.found.items ≡ octets_of l.fn.found.items ++ edges.firsts (has l.reached) (leads_of (take l.lead-index l.leads))
