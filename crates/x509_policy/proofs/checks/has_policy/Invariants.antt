use Rattle.std.proofs.Common.{◌≡◌, drop}
use Rattle.x509_policy.specs.Values.{has}
use Rattle.x509_policy.specs.Views.{octets_of}
use Rattle.x509_policy.proofs.checks.has_policy.Given as goal

-- it is among those that are left where it is among all
abbrev pub invariant-loop-other : goal.invariant-loop-other
invariant-loop-other l = has (octets_of l.policies) l.policy ≡ has (octets_of (drop l.other-index l.policies)) l.policy
