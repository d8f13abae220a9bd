use Rattle.std.proofs.Common.{◌≡◌, ◌≤◌, length, drop, None}
use Rattle.x509_constraints.specs.Email.{mailbox_of}
use Rattle.x509_constraints.proofs.email.split_mailbox.Given as goal

abbrev pub invariant-loop-left : goal.invariant-loop-left
invariant-loop-left l = (l.left ≤ length l.address) × (mailbox_of (drop l.left l.address) ≡ None)

abbrev pub decreases-loop-left : goal.decreases-loop-left
decreases-loop-left l = l.left
