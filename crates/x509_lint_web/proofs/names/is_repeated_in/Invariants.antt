use Rattle.std.proofs.Common.{◌≡◌, ◌≤◌, ◌+◌, length}
use Rattle.x509_lint_web.specs.Words.{count_of}
use Rattle.x509_lint_web.proofs.names.is_repeated_in.Given as goal

-- one attribute of the type was passed, or none
abbrev pub invariant-loop-rdns : goal.invariant-loop-rdns
invariant-loop-rdns l = record {
  few : l.passed ≤ 1;
  all : l.passed + count_of l.oid l.rdns ≡ count_of l.oid l.initial.rdns;
}

abbrev pub decreases-loop-rdns : goal.decreases-loop-rdns
decreases-loop-rdns l = length l.rdns
