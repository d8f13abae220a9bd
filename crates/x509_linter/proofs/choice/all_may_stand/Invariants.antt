use Rattle.std.proofs.Common.{◌≡◌, length, map}
use Rattle.std.specs.List.{list_all}
use Rattle.x509_linter.specs.Choice.{may_stand}
use Rattle.x509_linter.proofs.choice.all_may_stand.Given as goal

abbrev pub invariant-loop-rest : goal.invariant-loop-rest
invariant-loop-rest l = list_all may_stand (map (λ option. option.now) l.rest) ≡ list_all may_stand (map (λ option. option.now) l.options)

abbrev pub decreases-loop-rest : goal.decreases-loop-rest
decreases-loop-rest l = length l.rest
