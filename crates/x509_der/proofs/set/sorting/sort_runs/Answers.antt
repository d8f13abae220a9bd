use Rattle.std.proofs.Common.{rules, arith}
use Rattle.std.proofs.lemmas.List.Sorted.{IsPermutation-put_mid, IsPermutation-trans}
use Rattle.std.proofs.lemmas.List.Sums.{sum_by_more}
use Rattle.x509_der.proofs.set.sorting.sort_runs.Goals as goal

pub loop-len-preserved : goal.loop-len-preserved
loop-len-preserved g c =
    let more = sum_by_more (λ x. x) c.args.counts.now c.loop-len.len-counter 0 (omega arith) in record {
      start = omega (arith, more, c.loop-len.invariant.start);
      moved = IsPermutation-trans _ _ _ c.loop-len.invariant.moved (search (rules, IsPermutation-put_mid));
    }
