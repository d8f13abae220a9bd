use Rattle.std.proofs.Common.{◌≡◌, length, map}
use Rattle.x509_linter.specs.Choice.{has_level}
use Rattle.x509_linter.proofs.choice.has_level.Given as goal

abbrev pub invariant-loop-rest : goal.invariant-loop-rest
invariant-loop-rest l = has_level l.name (map (λ option. option.now) l.rest) ≡ has_level l.name (map (λ option. option.now) l.options)

abbrev pub decreases-loop-rest : goal.decreases-loop-rest
decreases-loop-rest l = length l.rest
