use Rattle.std.proofs.Common.{◌≡◌, map, take}
use Rattle.x509_c_calls.proofs.path.policies.identifiers_of.Given as goal
use Rattle.x509_policy.specs.Views.{octets_of}

abbrev pub invariant-loop-information : goal.invariant-loop-information
invariant-loop-information l = octets_of l.found.items ≡ map (λ information. information.policy_identifier) (take l.information-index l.policies)
