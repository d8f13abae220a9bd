use Rattle.std.proofs.Common.{◌≡◌, map, take}
use Rattle.x509_policy.specs.Edges.{expectation_of}
use Rattle.x509_policy.specs.Views.{octets_of}
use Rattle.x509_policy.proofs.level.all_expected.Given as goal

abbrev pub invariant-loop-expectation : goal.invariant-loop-expectation
invariant-loop-expectation l = octets_of l.found.items ≡ map (λ e. e.0) (map expectation_of (take l.expectation-index l.expectations))
