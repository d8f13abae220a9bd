use Rattle.std.proofs.Common.{◌≡◌, length}
use Rattle.x509_host.specs.Host.{behind_label}
use Rattle.x509_host.proofs.labels.behind_label.Given as goal

-- no dot was passed
abbrev pub invariant-loop-left : goal.invariant-loop-left
invariant-loop-left l = behind_label l.left ≡ behind_label l.host

abbrev pub decreases-loop-left : goal.decreases-loop-left
decreases-loop-left l = length l.left
