use Rattle.std.proofs.Common.{◌≡◌, ◌≤◌, length, take}
use Rattle.std.specs.List.{All, sum}
use Rattle.std.specs.List.Sorted.{IsPermutation}
use Rattle.x509_der.specs.declared.set.sorting.TheConstants.{LENGTHS}
use Rattle.x509_der.proofs.set.sorting.fill_runs.Given as goal

abbrev pub invariant-loop-ends : goal.invariant-loop-ends
invariant-loop-ends g l = record {
  all : length l.ends ≡ LENGTHS;
  within : All (λ end. end ≤ length l.items) l.ends;
  moved : IsPermutation l.initial.items l.items;
}

abbrev pub decreases-loop-ends : goal.decreases-loop-ends
decreases-loop-ends g l = sum l.ends

abbrev pub invariant-loop-len : goal.invariant-loop-len
invariant-loop-len g l = record {
  start : l.start ≡ sum (take l.len l.counts);
  all : length l.ends ≡ LENGTHS;
  within : All (λ end. end ≤ length l.items) l.ends;
  moved : IsPermutation l.initial.items l.items;
}
