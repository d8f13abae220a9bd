use Rattle.x509_der.specs.Writing.{writes}
use Rattle.x509_der.specs.PartOrder.{held_retagged, other_than_default}
use Rattle.x509_der.proofs.order.fields.both_defaulted_implicit.Goals as goal

pub returns-clause-order : goal.returns-clause-order
returns-clause-order g c = held_retagged (λ p. p.tag) (λ p. p.value.now) c.args.n g.T.Grammar.form (writes g.T.Encode.writing) g.T.ValueOrd.order c.retagged_unless_default.result c.retagged_unless_default-2.result (other_than_default g.T.DefaultValue.default c.args.a.now) (other_than_default g.T.DefaultValue.default c.args.b.now) (rw c.implicit_octet-tag.ensures at c.retagged_unless_default.ensures) (rw c.implicit_octet-tag.ensures at c.retagged_unless_default-2.ensures)
