use Rattle.std.proofs.Common.{◌≡◌, true, length}
use Rattle.x509_lint.specs.Beyond.{are_numbers}
use Rattle.x509_lint.proofs.beyond.are_numbers.Given as goal

abbrev pub invariant-loop-octets : goal.invariant-loop-octets
invariant-loop-octets l = are_numbers l.fresh l.octets ≡ are_numbers true l.initial.octets

abbrev pub decreases-loop-octets : goal.decreases-loop-octets
decreases-loop-octets l = length l.octets
