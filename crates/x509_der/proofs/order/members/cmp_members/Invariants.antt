use Rattle.std.proofs.Common.{length, ◌-◌, ◌≡◌, ◌≤◌, drop}
use Rattle.x509_der.specs.Order.{der_order}
use Rattle.x509_der.specs.Ordered.{by_members}
use Rattle.x509_der.specs.Writing.{writes}
use Rattle.x509_der.proofs.order.members.cmp_members.Given as goal

-- what is left compares as the whole
abbrev pub invariant-loop-i : goal.invariant-loop-i
invariant-loop-i g l = (by_members (der_order g.T.Grammar.form (writes g.T.Encode.writing) g.T.ValueOrd.order) (drop l.i l.a) (drop l.i l.b) ≡ by_members (der_order g.T.Grammar.form (writes g.T.Encode.writing) g.T.ValueOrd.order) l.a l.b) × (l.i ≤ length l.a) × (l.i ≤ length l.b)

abbrev pub decreases-loop-i : goal.decreases-loop-i
decreases-loop-i g l = length l.a - l.i
