use Rattle.std.proofs.Common.{◌≡◌, length, take}
use Rattle.std.specs.List.{sum}
use Rattle.std.specs.List.Sorted.{IsPermutation}
use Rattle.x509_der.proofs.set.sorting.sort_runs.Given as goal

abbrev pub invariant-loop-len : goal.invariant-loop-len
invariant-loop-len g l = record {
  start : l.start ≡ sum (take l.len-counter l.counts);
  moved : IsPermutation l.initial.items l.items;
}
