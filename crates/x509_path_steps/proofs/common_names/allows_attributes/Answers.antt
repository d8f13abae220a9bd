use Rattle.x509_constraints.proofs.Asked.{all_done, all_step, not_all}
use Rattle.x509_path_steps.proofs.common_names.allows_attributes.Goals as goal
use Rattle.x509_path_steps.specs.ServerNames.{IsOneAllowed}

pub returns-then-not-branch : goal.returns-then-not-branch
returns-then-not-branch c applied names is are =
    not_all (λ x. IsOneAllowed applied names x) c.args.attributes.now c.loop-attribute.attribute-index c.attribute-item.result c.in_ok-allows_attribute.field-0 c.loop-attribute-test.true c.attribute-item.is
    (c.in_ok-allows_attribute.ensures applied names is are) c.if-not-branch.true

pub loop-attribute-preserved : goal.loop-attribute-preserved
loop-attribute-preserved c applied names is are =
    all_step (λ x. IsOneAllowed applied names x) c.args.attributes.now c.loop-attribute.attribute-index c.attribute-item.result c.in_ok-allows_attribute.field-0 c.loop-attribute-test.true c.attribute-item.is
    (c.in_ok-allows_attribute.ensures applied names is are) c.if-not-branch.false (c.loop-attribute.invariant applied names is are)

pub returns : goal.returns
returns c applied names is are =
    all_done (λ x. IsOneAllowed applied names x) c.args.attributes.now c.loop-attribute.attribute-index c.loop-attribute-test.false (c.loop-attribute.invariant applied names is are)
