use Rattle.std.proofs.Common.{sym, ◌∙◌}
use Rattle.x509_name.proofs.EqualAttributes.{pairs_of_a_type, pairs_of_two_types}
use Rattle.x509_name.proofs.attr.type_and_value.AttributeTypeAndValuePartialEq.eq.Goals as goal

pub returns-then-eq : goal.returns-then-eq
returns-then-eq c = c.eq-then-eq.ensures ∙ pairs_of_a_type c.args.self.now c.args.other.now (sym c.eq.ensures ∙ c.if-eq.true)

pub returns-else-eq : goal.returns-else-eq
returns-else-eq c = c.if-eq.false ∙ pairs_of_two_types c.args.self.now c.args.other.now (sym c.eq.ensures ∙ c.if-eq.false)
