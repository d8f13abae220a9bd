use Rattle.std.proofs.Common.{◌≡◌, ◌-◌, ◌≤◌, length}
use Rattle.x509_refusal.specs.Unread.{unread_members, unread_members_at}
use Rattle.x509_refusal.proofs.walk.unread_members.Given as goal

abbrev pub invariant-loop : goal.invariant-loop
invariant-loop l = record {
  left : length l.rest ≤ length l.octets;
  same : unread_members_at (length l.octets - l.counter) l.member l.end-2 l.rest ≡ unread_members l.member l.end-2 l.octets;
}
