use Rattle.std.proofs.Common.{◌≡◌, length, map}
use Rattle.x509_linter.specs.Linter.{repeat_misuse}
use Rattle.x509_linter.proofs.linter.repeat_misuse.Given as goal

abbrev pub invariant-loop-rest : goal.invariant-loop-rest
invariant-loop-rest l = repeat_misuse (map (λ option. option.now) l.rest) ≡ repeat_misuse (map (λ option. option.now) l.options)

abbrev pub decreases-loop-rest : goal.decreases-loop-rest
decreases-loop-rest l = length l.rest
