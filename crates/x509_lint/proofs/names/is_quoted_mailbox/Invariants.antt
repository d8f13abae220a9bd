use Rattle.std.proofs.Common.{◌≡◌, false, length}
use Rattle.x509_lint.specs.Alternative.{is_quoted_behind}
use Rattle.x509_lint.proofs.names.is_quoted_mailbox.Given as goal

abbrev pub invariant-loop-text : goal.invariant-loop-text
invariant-loop-text l = is_quoted_behind l.escaped l.text ≡ is_quoted_behind false l.initial.text

abbrev pub decreases-loop-text : goal.decreases-loop-text
decreases-loop-text l = length l.text
