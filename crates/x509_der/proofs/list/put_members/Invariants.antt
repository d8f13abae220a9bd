use Rattle.std.proofs.Common.{◌≤◌, drop, length, Ok}
use Rattle.x509_der.specs.List.{members_text, members_refusal}
use Rattle.x509_der.specs.Writing.{writes, Puts}
use Rattle.x509_der.proofs.list.put_members.Given as goal

-- the members from i on stand
abbrev pub invariant-loop-i : goal.invariant-loop-i
invariant-loop-i g l = record {
  stand : Puts g.R.Room.kind (members_text g.T.Grammar.form (writes g.T.Encode.writing) (drop l.i l.items)) (members_refusal (writes g.T.Encode.writing) (drop l.i l.items)) (Ok tt) l.fn.room l.room;
  within : l.i ≤ length l.items;
}

abbrev pub decreases-loop-i : goal.decreases-loop-i
decreases-loop-i g l = l.i
