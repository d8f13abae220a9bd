use Rattle.std.proofs.Common.{◌∙◌, ◌++◌, take, sym, ap}
use Rattle.x509_c_calls.proofs.PolicyOctets.{further, long-policy}
use Rattle.x509_c_calls.proofs.path.policies.encoded_policies.Goals as goal
use Rattle.x509_c_calls.specs.PathValidation.{policy_octets}
use Rattle.x509_der.specs.List.{joined}
use Rattle.x509_policy.specs.Views.{octets_of}

pub loop-policy-init : goal.loop-policy-init
unfolding joined
loop-policy-init c = c.new-content.ensures.items

pub returns-in-Err : goal.returns-in-Err
returns-in-Err c = long-policy c.args.policies.now c.loop-policy.policy-index _ c.in-Err.e.kind c.loop-policy-test.true c.in-Err.ensures

pub loop-policy-preserved : goal.loop-policy-preserved
loop-policy-preserved c =
    let front = joined policy_octets (octets_of (take c.loop-policy.policy-index c.args.policies.now)) in
    c.in_ok-append.ensures.items ∙ ap (λ xs. xs ++ c.in-Ok.information.items) c.loop-policy.invariant ∙ ap (λ ys. front ++ ys) c.in-Ok.ensures
    ∙ sym (further c.args.policies.now c.loop-policy.policy-index _ c.loop-policy-test.true)
