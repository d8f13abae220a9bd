use Rattle.std.proofs.Common.{refl, sym, ◌∙◌}
use Rattle.x509_match.proofs.Partners.{one_partner_more, all_partners}
use Rattle.x509_match.proofs.names.counts_match.Goals as goal

pub loop-attribute-preserved : goal.loop-attribute-preserved
loop-attribute-preserved c = one_partner_more c.args.a.now c.args.b.now c.args.a.now _ _ c.loop-attribute-test.true c.attribute-item.is c.loop-attribute.invariant (sym c.in_ok-left.ensures.same ∙ c.if-left-right.false ∙ c.in_ok-right.ensures.same)

pub returns-clause-same : goal.returns-clause-same
returns-clause-same c len = (λ t. all_partners c.args.a.now c.args.b.now _ c.loop-attribute-test.false len c.loop-attribute.invariant, λ p. refl)
