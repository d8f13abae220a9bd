use Rattle.std.proofs.Common.{◌≡◌, length, map}
use Rattle.x509_linter.specs.Linter.{are_single}
use Rattle.x509_linter.proofs.linter.are_single.Given as goal

abbrev pub invariant-loop-rest : goal.invariant-loop-rest
invariant-loop-rest l = are_single (map (λ option. option.now) l.rest) ≡ are_single (map (λ option. option.now) l.options)

abbrev pub decreases-loop-rest : goal.decreases-loop-rest
decreases-loop-rest l = length l.rest
