use Rattle.std.proofs.Common.{◌≡◌, ◌++◌, map, take}
use Rattle.x509_policy.specs.Edges as edges
use Rattle.x509_policy.specs.Edges.{leads_of, expectation_of}
use Rattle.x509_policy.specs.Values.{has}
use Rattle.x509_policy.specs.Views.{mapping_of}
use Rattle.x509_policy.proofs.level.push_mapped.Given as goal

abbrev pub invariant-loop-mapping : goal.invariant-loop-mapping
invariant-loop-mapping l = map expectation_of l.expectations.items ≡ map expectation_of l.fn.expectations.items ++ edges.mapped (has l.there) (map mapping_of (take l.mapping-index l.mappings))
