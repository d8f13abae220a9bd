use Rattle.x509_der.specs.Writing.{writes}
use Rattle.x509_der.specs.PartOrder.{held_retagged}
use Rattle.x509_der.proofs.order.fields.both_optional_implicit.Goals as goal

pub returns-clause-order : goal.returns-clause-order
returns-clause-order g c = held_retagged (λ p. p.tag) (λ p. p.value.now) c.args.n g.T.Grammar.form (writes g.T.Encode.writing) g.T.ValueOrd.order c.retagged.result c.retagged-2.result c.args.a.now c.args.b.now (rw c.implicit_octet-tag.ensures at c.retagged.ensures) (rw c.implicit_octet-tag.ensures at c.retagged-2.ensures)
