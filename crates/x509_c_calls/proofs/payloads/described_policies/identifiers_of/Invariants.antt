use Rattle.std.proofs.Common.{◌≡◌, take}
use Rattle.x509_c_calls.proofs.payloads.described_policies.identifiers_of.Given as goal
use Rattle.x509_c_calls.specs.DescribedPolicyLists.{identifiers_in}

abbrev pub invariant-loop-policy : goal.invariant-loop-policy
invariant-loop-policy l = l.oids.items ≡ identifiers_in (take l.policy-index l.policies)
