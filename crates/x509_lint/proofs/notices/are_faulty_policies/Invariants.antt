use Rattle.std.proofs.Common.{◌≡◌, length}
use Rattle.std.specs.List.{list_any}
use Rattle.x509_lint.specs.Notices.{is_faulty_policy}
use Rattle.x509_lint.proofs.notices.are_faulty_policies.Given as goal

abbrev pub invariant-loop-policies : goal.invariant-loop-policies
invariant-loop-policies l = list_any (is_faulty_policy l.fault) l.policies ≡ list_any (is_faulty_policy l.fault) l.initial.policies

abbrev pub decreases-loop-policies : goal.decreases-loop-policies
decreases-loop-policies l = length l.policies
