use Rattle.std.proofs.Common.{◌≡◌, length}
use Rattle.x509_lint.specs.Uri.{is_absolute_behind}
use Rattle.x509_lint.proofs.uris.is_absolute_behind.Given as goal

abbrev pub invariant-loop-text : goal.invariant-loop-text
invariant-loop-text l = is_absolute_behind l.text ≡ is_absolute_behind l.initial.text

abbrev pub decreases-loop-text : goal.decreases-loop-text
decreases-loop-text l = length l.text
