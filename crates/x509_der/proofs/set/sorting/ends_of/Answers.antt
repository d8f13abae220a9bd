use Rattle.std.proofs.Common.{arith, ◌≤◌, refl}
use Rattle.std.specs.List.{sum}
use Rattle.std.proofs.lemmas.List.Elements.{All-replicate, All-set}
use Rattle.std.proofs.lemmas.List.Sums.{sum_by_more, sum_by_more_le}
use Rattle.x509_der.proofs.set.sorting.ends_of.Goals as goal

pub loop-len-init : goal.loop-len-init
loop-len-init c = record { end = refl; within = All-replicate (λ end. end ≤ sum c.args.counts.now) 256 0 (omega arith) }

pub loop-len-preserved : goal.loop-len-preserved
loop-len-preserved c =
    let more = sum_by_more (λ x. x) c.args.counts.now c.loop-len.len 0 (omega arith) in
    let most = sum_by_more_le (λ x. x) c.args.counts.now c.loop-len.len 0 (omega arith) in record {
      end = omega (arith, more, c.loop-len.invariant.end);
      within = All-set (λ end. end ≤ sum c.args.counts.now) c.loop-len.ends c.loop-len.len _ (omega (arith, most, c.loop-len.invariant.end)) c.loop-len.invariant.within;
    }
