use Rattle.std.proofs.Common.{◌≡◌, length}
use Rattle.x509_lint_web.specs.Host.{last_label, last_label_of}
use Rattle.x509_lint_web.proofs.hosts.last_label.Given as goal

abbrev pub invariant-loop-left : goal.invariant-loop-left
invariant-loop-left l = last_label_of l.label l.left ≡ last_label l.text

abbrev pub decreases-loop-left : goal.decreases-loop-left
decreases-loop-left l = length l.left
