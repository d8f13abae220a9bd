use Rattle.std.proofs.Common.{◌≡◌, take}
use Rattle.x509_lint.specs.Values.{policy_identifiers}
use Rattle.x509_lint.proofs.repeats.are_identifiers_distinct.Given as goal

abbrev pub invariant-loop-policy : goal.invariant-loop-policy
invariant-loop-policy l = l.identifiers.items ≡ policy_identifiers (take l.policy-index l.policies)
