use Rattle.std.proofs.Common.{◌≤◌, drop, length, Ok}
use Rattle.x509_der.specs.List.{members_text, members_refusal}
use Rattle.x509_der.specs.Writing.{plain, writes, Puts}
use Rattle.x509_name.specs.Names.{relative_distinguished_name}
use Rattle.x509_name.proofs.name.short.put_rdns.Given as goal

-- the members from i on stand
abbrev pub invariant-loop-i : goal.invariant-loop-i
invariant-loop-i g l = record {
  stand : Puts g.R.Room.kind (members_text relative_distinguished_name (writes plain) (drop l.i l.rdns)) (members_refusal (writes plain) (drop l.i l.rdns)) (Ok tt) l.fn.room l.room;
  within : l.i ≤ length l.rdns;
}

abbrev pub decreases-loop-i : goal.decreases-loop-i
decreases-loop-i g l = l.i
