use Rattle.std.proofs.Common.{◌≡◌, length}
use Rattle.std.specs.List.{list_any}
use Rattle.x509_lint.proofs.lists.any_attribute.Given as goal

abbrev pub invariant-loop-rdns : goal.invariant-loop-rdns
invariant-loop-rdns g l = list_any (λ rdn. list_any (g.P.Test.holds_of l.test) rdn) l.rdns ≡ list_any (λ rdn. list_any (g.P.Test.holds_of l.test) rdn) l.initial.rdns

abbrev pub decreases-loop-rdns : goal.decreases-loop-rdns
decreases-loop-rdns g l = length l.rdns
