use Rattle.std.proofs.Common.{◌≡◌, take}
use Rattle.x509_lint.proofs.SortedOids.{octets_of}
use Rattle.x509_lint.specs.Values.{policy_identifiers}
use Rattle.x509_lint.proofs.asserted.is_one_unasserted.Given as goal

abbrev pub invariant-loop-policy : goal.invariant-loop-policy
invariant-loop-policy l = octets_of l.identifiers.items ≡ policy_identifiers (take l.policy-index l.policies)
