use Rattle.x509_der.specs.Writing.{writes}
use Rattle.x509_der.specs.PartOrder.{held_wrapped, other_than_default}
use Rattle.x509_der.proofs.order.fields.both_defaulted_explicit.Goals as goal

pub returns-clause-order : goal.returns-clause-order
returns-clause-order g c = held_wrapped (λ p. p.tag) (λ p. p.value.now) c.args.n g.T.Grammar.form (writes g.T.Encode.writing) g.T.ValueOrd.order c.wrapped_unless_default.result c.wrapped_unless_default-2.result (other_than_default g.T.DefaultValue.default c.args.a.now) (other_than_default g.T.DefaultValue.default c.args.b.now) c.wrapped_unless_default.ensures c.wrapped_unless_default-2.ensures
