use Rattle.std.proofs.Common.{◌≡◌, false, length}
use Rattle.x509_host.proofs.ByOctets.{are_labels}
use Rattle.x509_host.proofs.names.is_host.Given as goal

abbrev pub invariant-loop-left : goal.invariant-loop-left
invariant-loop-left l = are_labels l.begun l.left ≡ are_labels false l.octets

abbrev pub decreases-loop-left : goal.decreases-loop-left
decreases-loop-left l = length l.left
