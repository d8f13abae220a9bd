use Rattle.std.proofs.Common.{◌≡◌, ◌≤◌, length}
use Rattle.x509_refusal.specs.Unread.{unread_from}
use Rattle.x509_refusal.proofs.walk.unread_from.Given as goal

abbrev pub invariant-loop-others : goal.invariant-loop-others
invariant-loop-others l = record {
  left : length l.rest ≤ length l.octets;
  same : unread_from l.whole l.end l.others l.rest ≡ unread_from l.whole l.end l.fields l.octets;
}

abbrev pub decreases-loop-others : goal.decreases-loop-others
decreases-loop-others l = length l.others
