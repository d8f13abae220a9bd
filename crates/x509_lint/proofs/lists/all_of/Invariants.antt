use Rattle.std.proofs.Common.{◌≡◌, length}
use Rattle.std.specs.List.{list_all}
use Rattle.x509_lint.proofs.lists.all_of.Given as goal

abbrev pub invariant-loop-values : goal.invariant-loop-values
invariant-loop-values g l = list_all (g.P.Test.holds_of l.test) l.values ≡ list_all (g.P.Test.holds_of l.test) l.initial.values

abbrev pub decreases-loop-values : goal.decreases-loop-values
decreases-loop-values g l = length l.values
