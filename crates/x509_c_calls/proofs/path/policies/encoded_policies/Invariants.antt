use Rattle.std.proofs.Common.{◌≡◌, take}
use Rattle.x509_der.specs.List.{joined}
use Rattle.x509_policy.specs.Views.{octets_of}
use Rattle.x509_c_calls.proofs.path.policies.encoded_policies.Given as goal
use Rattle.x509_c_calls.specs.PathValidation.{policy_octets}

abbrev pub invariant-loop-policy : goal.invariant-loop-policy
invariant-loop-policy l = l.content.items ≡ joined policy_octets (octets_of (take l.policy-index l.policies))
