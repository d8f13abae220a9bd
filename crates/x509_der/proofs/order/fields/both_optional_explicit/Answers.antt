use Rattle.x509_der.specs.Writing.{writes}
use Rattle.x509_der.specs.PartOrder.{held_wrapped}
use Rattle.x509_der.proofs.order.fields.both_optional_explicit.Goals as goal

pub returns-clause-order : goal.returns-clause-order
returns-clause-order g c = held_wrapped (λ p. p.tag) (λ p. p.value.now) c.args.n g.T.Grammar.form (writes g.T.Encode.writing) g.T.ValueOrd.order c.wrapped.result c.wrapped-2.result c.args.a.now c.args.b.now c.wrapped.ensures c.wrapped-2.ensures
