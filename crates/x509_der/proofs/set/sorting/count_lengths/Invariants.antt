use Rattle.std.proofs.Common.{◌≡◌, length}
use Rattle.std.specs.List.{sum}
use Rattle.x509_der.specs.declared.set.sorting.TheConstants.{LENGTHS}
use Rattle.x509_der.proofs.set.sorting.count_lengths.Given as goal

-- each item so far is counted once
abbrev pub invariant-loop-item : goal.invariant-loop-item
invariant-loop-item g l = (sum l.counts ≡ l.item-index) × (length l.counts ≡ LENGTHS)
