use Rattle.std.proofs.Common.{rules, arith, ◌∙◌, ◌≤◌, length}
use Rattle.std.proofs.lemmas.List.{length-set}
use Rattle.std.proofs.lemmas.List.Sums.{sum_by_more, sum_by_more_le}
use Rattle.std.proofs.lemmas.List.Elements.{All-get_or, All-set}
use Rattle.std.proofs.lemmas.List.Sorted.{IsPermutation-trans}
use Rattle.x509_der.proofs.set.sorting.fill_runs.Goals as goal

pub returns-in_default : goal.returns-in_default
returns-in_default g c = IsPermutation-trans _ _ _ c.loop-len.invariant.moved c.loop-ends.invariant.moved

pub loop-ends-preserved : goal.loop-ends-preserved
loop-ends-preserved g c =
    let own = c.length_of-own.result in
    let below = All-get_or (λ end. end ≤ length c.loop-ends.items) c.loop-ends.ends own 0 (omega (arith, c.loop-ends.invariant.all, c.length_of-own.ensures)) c.loop-ends.invariant.within in record {
      all = length-set c.loop-ends.ends own _ ∙ c.loop-ends.invariant.all;
      within = All-set (λ end. end ≤ length c.swap.new.self) c.loop-ends.ends own c.in-Some.goal (omega (arith, below, c.in-Some.ensures, c.swap.ensures.len))
          (rw c.swap.ensures.len c.loop-ends.invariant.within);
      moved = IsPermutation-trans _ _ _ c.loop-ends.invariant.moved c.swap.ensures.permutation;
    }

pub overflow_add-start : goal.overflow_add-start
overflow_add-start g c =
    let most = sum_by_more_le (λ x. x) c.args.counts.now c.loop-len.len 0 (omega arith) in
    omega (arith, most, c.loop-len.invariant.start)

pub loop-len-preserved : goal.loop-len-preserved
loop-len-preserved g c =
    let more = sum_by_more (λ x. x) c.args.counts.now c.loop-len.len 0 (omega arith) in record {
      start = omega (arith, more, c.loop-len.invariant.start);
      all = c.loop-ends.invariant.all;
      within = c.loop-ends.invariant.within;
      moved = IsPermutation-trans _ _ _ c.loop-len.invariant.moved c.loop-ends.invariant.moved;
    }
