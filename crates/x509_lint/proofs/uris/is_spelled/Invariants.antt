use Rattle.std.proofs.Common.{◌≡◌, length}
use Rattle.x509_lint.specs.Uri.{is_spelled}
use Rattle.x509_lint.proofs.uris.is_spelled.Given as goal

abbrev pub invariant-loop-text : goal.invariant-loop-text
invariant-loop-text l = is_spelled l.marks l.text ≡ is_spelled l.marks l.initial.text

abbrev pub decreases-loop-text : goal.decreases-loop-text
decreases-loop-text l = length l.text
