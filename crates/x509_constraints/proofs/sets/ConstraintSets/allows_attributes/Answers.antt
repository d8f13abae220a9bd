use Rattle.x509_constraints.specs.Constraints.{IsAttributeAllowed}
use Rattle.x509_constraints.proofs.Asked.{all_done, all_step, not_all}
use Rattle.x509_constraints.proofs.sets.ConstraintSets.allows_attributes.Goals as goal

pub returns-then-not-branch : goal.returns-then-not-branch
returns-then-not-branch c sets applied =
    not_all (λ x. IsAttributeAllowed sets x) c.args.attributes.now c.loop-attribute.attribute-index c.attribute-item.result c.in_ok-allows_attribute.field-0 c.loop-attribute-test.true c.attribute-item.is
    (c.in_ok-allows_attribute.ensures sets applied) c.if-not-branch.true

pub loop-attribute-preserved : goal.loop-attribute-preserved
loop-attribute-preserved c sets applied =
    all_step (λ x. IsAttributeAllowed sets x) c.args.attributes.now c.loop-attribute.attribute-index c.attribute-item.result c.in_ok-allows_attribute.field-0 c.loop-attribute-test.true c.attribute-item.is
    (c.in_ok-allows_attribute.ensures sets applied) c.if-not-branch.false (c.loop-attribute.invariant sets applied)

pub returns : goal.returns
returns c sets applied = all_done (λ x. IsAttributeAllowed sets x) c.args.attributes.now c.loop-attribute.attribute-index c.loop-attribute-test.false (c.loop-attribute.invariant sets applied)
