use Rattle.std.proofs.Common.{◌≡◌, ◌≤◌, length, take}
use Rattle.std.specs.List.{All, sum}
use Rattle.x509_der.proofs.set.sorting.ends_of.Given as goal

abbrev pub invariant-loop-len : goal.invariant-loop-len
invariant-loop-len l = record {
  end : l.end ≡ sum (take l.len l.counts);
  within : All (λ end. end ≤ sum l.counts) l.ends;
}
