use Rattle.std.proofs.Common.{◌∙◌, Bor, List, [], ℕ, sym}
use Rattle.std.proofs.lemmas.Bool.{true≢false}
use Rattle.x509_path_steps.proofs.Readables.{all_oids, more_oids, no_oid}
use Rattle.x509_path_steps.proofs.readable.are_all_oids.Goals as goal

-- what a read of a list of slices answers behind its end
abbrev nothing : Bor (List ℕ)
nothing = record { ref_ptr = (0, 0); now = [] }

pub returns-then-not-is_oid : goal.returns-then-not-is_oid
returns-then-not-is_oid c = no_oid c.args.policies.now c.loop-policy.policy-index nothing c.loop-policy-test.true (λ here. true≢false (sym (c.is_oid.ensures.1 here) ∙ c.if-not-is_oid.true))

pub loop-policy-preserved : goal.loop-policy-preserved
loop-policy-preserved c = more_oids c.args.policies.now c.loop-policy.policy-index nothing c.loop-policy-test.true (c.is_oid.ensures.0 c.if-not-is_oid.false) c.loop-policy.invariant

pub returns : goal.returns
returns c = all_oids c.args.policies.now c.loop-policy.policy-index c.loop-policy-test.false c.loop-policy.invariant
