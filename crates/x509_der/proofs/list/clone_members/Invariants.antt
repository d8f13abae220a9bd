use Rattle.std.proofs.Common.{◌≡◌, take}
use Rattle.x509_der.proofs.list.clone_members.Given as goal

abbrev pub invariant-loop-member : goal.invariant-loop-member
invariant-loop-member g l = l.copies.items ≡ take l.member-index l.members
