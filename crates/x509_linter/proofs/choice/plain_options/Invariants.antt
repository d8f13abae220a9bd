use Rattle.std.proofs.Common.{drop, map}
use Rattle.x509_linter.specs.Choice.{plain_options}
use Rattle.x509_linter.proofs.PlainOptions.{PlainSo}
use Rattle.x509_linter.proofs.choice.plain_options.Given as goal

-- those of the options so far are taken
abbrev pub invariant-loop-option : goal.invariant-loop-option
invariant-loop-option l = PlainSo (plain_options (map (λ option. option.now) l.options)) (map (λ option. option.now) l.plain.items) (map (λ option. option.now) (drop l.option-index l.options))
