use Rattle.std.proofs.Common.{◌-◌}
use Rattle.x509_constraints.proofs.Search.{IsBetween}
use Rattle.x509_constraints.proofs.prefixes.Prefixes.has_prefix_of.Given as goal

abbrev pub invariant-loop-high : goal.invariant-loop-high
invariant-loop-high l = IsBetween l.self l.key l.low l.high

abbrev pub decreases-loop-high : goal.decreases-loop-high
decreases-loop-high l = l.high - l.low
