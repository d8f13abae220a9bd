use Rattle.std.proofs.Common.{◌≡◌, length}
use Rattle.x509_linter.specs.Lines.{behind}
use Rattle.x509_linter.proofs.lines.behind.Given as goal

abbrev pub invariant-loop-text : goal.invariant-loop-text
invariant-loop-text l = behind l.mark l.text ≡ behind l.mark l.initial.text

abbrev pub decreases-loop-text : goal.decreases-loop-text
decreases-loop-text l = length l.text
