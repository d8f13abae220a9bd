use Rattle.std.proofs.Common.{◌≡◌, ◌≤◌, length}
use Rattle.x509_lint.specs.Uri.{behind_gap}
use Rattle.x509_lint.proofs.uris.behind_gap.Given as goal

abbrev pub invariant-loop-text : goal.invariant-loop-text
invariant-loop-text l = record { same : behind_gap l.text ≡ behind_gap l.initial.text; within : length l.text ≤ length l.initial.text }

abbrev pub decreases-loop-text : goal.decreases-loop-text
decreases-loop-text l = length l.text
