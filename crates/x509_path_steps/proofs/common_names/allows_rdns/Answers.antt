use Rattle.std.specs.List.{All}
use Rattle.x509_constraints.proofs.Asked.{all_done, all_step, not_all}
use Rattle.x509_path_steps.proofs.common_names.allows_rdns.Goals as goal
use Rattle.x509_path_steps.specs.ServerNames.{IsOneAllowed}

pub returns-then-not-branch : goal.returns-then-not-branch
returns-then-not-branch c applied names is are =
    not_all (λ x. All (λ a. IsOneAllowed applied names a) x) c.args.rdns.now c.loop-rdn.rdn-index c.rdn-item.result c.in_ok-allows_attributes.field-0 c.loop-rdn-test.true c.rdn-item.is
    (rw c.as_slice.ensures.members at (c.in_ok-allows_attributes.ensures applied names is are)) c.if-not-branch.true

pub loop-rdn-preserved : goal.loop-rdn-preserved
loop-rdn-preserved c applied names is are =
    all_step (λ x. All (λ a. IsOneAllowed applied names a) x) c.args.rdns.now c.loop-rdn.rdn-index c.rdn-item.result c.in_ok-allows_attributes.field-0 c.loop-rdn-test.true c.rdn-item.is
    (rw c.as_slice.ensures.members at (c.in_ok-allows_attributes.ensures applied names is are)) c.if-not-branch.false (c.loop-rdn.invariant applied names is are)

pub returns : goal.returns
returns c applied names is are =
    all_done (λ x. All (λ a. IsOneAllowed applied names a) x) c.args.rdns.now c.loop-rdn.rdn-index c.loop-rdn-test.false (c.loop-rdn.invariant applied names is are)
