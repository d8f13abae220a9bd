use Rattle.std.proofs.Common.{arith, ◌+◌, ◌∙◌, slice_index_or}
use Rattle.std.proofs.lemmas.List.{length-set}
use Rattle.std.proofs.lemmas.List.Sums.{sum_by-set}
use Rattle.x509_der.proofs.set.sorting.count_lengths.Goals as goal

pub loop-item-preserved : goal.loop-item-preserved
loop-item-preserved g c =
    let at = c.length_of.result in
    let more = sum_by-set (λ x. x) c.loop-item.counts at (slice_index_or c.loop-item.counts at 0 + 1) 0 (omega arith) in
    (omega (arith, more, c.loop-item.invariant.0), length-set c.loop-item.counts at _ ∙ c.loop-item.invariant.1)
