use Rattle.std.proofs.Common.{sym, ◌∙◌}
use Rattle.x509_policy.proofs.Octets.{has_left, has_past, found, kept}
use Rattle.x509_policy.proofs.checks.has_policy.Goals as goal

pub returns-then-eq : goal.returns-then-eq
returns-then-eq c =
    let left = has_left c.args.policies.now c.loop-other.other-index _ c.loop-other-test.true c.args.policy.now in
    found _ _ _ _ c.loop-other.invariant left (sym c.eq.ensures ∙ c.if-eq.true)

pub loop-other-preserved : goal.loop-other-preserved
loop-other-preserved c =
    let left = has_left c.args.policies.now c.loop-other.other-index _ c.loop-other-test.true c.args.policy.now in
    kept _ _ _ _ c.loop-other.invariant left (sym c.eq.ensures ∙ c.if-eq.false)

pub returns : goal.returns
returns c = sym (c.loop-other.invariant ∙ has_past c.args.policies.now c.loop-other.other-index c.args.policy.now c.loop-other-test.false)
