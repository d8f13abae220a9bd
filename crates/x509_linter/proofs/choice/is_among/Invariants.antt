use Rattle.std.proofs.Common.{◌≡◌, length, map}
use Rattle.x509_object_run.specs.Words.{has_option}
use Rattle.x509_linter.proofs.choice.is_among.Given as goal

abbrev pub invariant-loop-rest : goal.invariant-loop-rest
invariant-loop-rest l = has_option l.option (map (λ option. option.now) l.rest) ≡ has_option l.option (map (λ option. option.now) l.options)

abbrev pub decreases-loop-rest : goal.decreases-loop-rest
decreases-loop-rest l = length l.rest
