use Rattle.std.proofs.Common.{◌∙◌, sym, inl, inr}
use Rattle.x509_der.specs.Writing.{writes}
use Rattle.x509_der.proofs.Ends.{ended_after}
use Rattle.x509_der.specs.Order.{der_order}
use Rattle.x509_der.proofs.order.members.cmp_members.Goals as goal
use Rattle.x509_der.proofs.order.members.cmp_members.Goals.{then-loop-i-test+else-i-b, else-loop-i-test}

pub returns : goal.returns
returns g c =
    c.cmp.ensures ∙ sym (ended_after (der_order g.T.Grammar.form (writes g.T.Encode.writing) g.T.ValueOrd.order) c.args.a.now c.args.b.now c.loop-i.i c.loop-i.invariant.1 c.loop-i.invariant.2
    (elim c.loop-i-test.branch [ then-loop-i-test+else-i-b w ↦ inr w.if-i-b.false | else-loop-i-test w ↦ inl w.loop-i-test.false ]))
    ∙ c.loop-i.invariant.0
