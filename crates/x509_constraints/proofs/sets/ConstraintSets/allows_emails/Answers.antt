use Rattle.std.specs.List.{All}
use Rattle.x509_constraints.specs.Constraints.{IsAttributeAllowed}
use Rattle.x509_constraints.proofs.Asked.{all_done, all_step, not_all}
use Rattle.x509_constraints.proofs.sets.ConstraintSets.allows_emails.Goals as goal

pub returns-then-not-branch : goal.returns-then-not-branch
returns-then-not-branch c sets applied =
    not_all (λ x. All (λ a. IsAttributeAllowed sets a) x) c.args.subject.now c.loop-rdn.rdn-index c.rdn-item.result c.in_ok-allows_attributes.field-0 c.loop-rdn-test.true c.rdn-item.is
    (rw c.as_slice.ensures.members at (c.in_ok-allows_attributes.ensures sets applied)) c.if-not-branch.true

pub loop-rdn-preserved : goal.loop-rdn-preserved
loop-rdn-preserved c sets applied =
    all_step (λ x. All (λ a. IsAttributeAllowed sets a) x) c.args.subject.now c.loop-rdn.rdn-index c.rdn-item.result c.in_ok-allows_attributes.field-0 c.loop-rdn-test.true c.rdn-item.is
    (rw c.as_slice.ensures.members at (c.in_ok-allows_attributes.ensures sets applied)) c.if-not-branch.false (c.loop-rdn.invariant sets applied)

pub returns : goal.returns
returns c sets applied = all_done (λ x. All (λ a. IsAttributeAllowed sets a) x) c.args.subject.now c.loop-rdn.rdn-index c.loop-rdn-test.false (c.loop-rdn.invariant sets applied)
