use Rattle.std.proofs.Common.{◌≡◌, false, length}
use Rattle.x509_constraints.specs.Email as emails
use Rattle.x509_constraints.proofs.email.is_quoted.Given as goal

abbrev pub invariant-loop-left : goal.invariant-loop-left
invariant-loop-left l = emails.is_quoted l.escaped l.left ≡ emails.is_quoted false l.octets

abbrev pub decreases-loop-left : goal.decreases-loop-left
decreases-loop-left l = length l.left
