use Rattle.x509_constraints.specs.Constraints.{IsAllowed}
use Rattle.x509_constraints.proofs.Asked.{all_done, all_step, not_all}
use Rattle.x509_constraints.proofs.sets.ConstraintSets.allows_each.Goals as goal

pub returns-then-not-branch : goal.returns-then-not-branch
returns-then-not-branch c sets applied =
    not_all (λ x. IsAllowed sets x) c.args.names.now c.loop-name.name-index c.name-item.result c.in_ok-allows.field-0 c.loop-name-test.true c.name-item.is
    (c.in_ok-allows.ensures.same sets applied) c.if-not-branch.true

pub loop-name-preserved : goal.loop-name-preserved
loop-name-preserved c sets applied =
    all_step (λ x. IsAllowed sets x) c.args.names.now c.loop-name.name-index c.name-item.result c.in_ok-allows.field-0 c.loop-name-test.true c.name-item.is
    (c.in_ok-allows.ensures.same sets applied) c.if-not-branch.false (c.loop-name.invariant sets applied)

pub returns : goal.returns
returns c sets applied = all_done (λ x. IsAllowed sets x) c.args.names.now c.loop-name.name-index c.loop-name-test.false (c.loop-name.invariant sets applied)
