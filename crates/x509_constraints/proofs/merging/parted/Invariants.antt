use Rattle.std.proofs.Common.{◌≡◌, ◌++◌, not, filter}
use Rattle.std.specs.Vec.Iter.{into_iter_items, into_iter_len}
use Rattle.x509_constraints.specs.Prefixes.{has_prefix}
use Rattle.x509_constraints.proofs.merging.parted.Given as goal

abbrev pub invariant-loop-key : goal.invariant-loop-key
invariant-loop-key l =
    (l.within.items ++ filter (λ key. has_prefix l.set key) (into_iter_items l.rest) ≡ filter (λ key. has_prefix l.set key) l.fn.keys.items)
    × (l.outside.items ++ filter (λ key. not (has_prefix l.set key)) (into_iter_items l.rest) ≡ filter (λ key. not (has_prefix l.set key)) l.fn.keys.items)

abbrev pub decreases-loop-key : goal.decreases-loop-key
decreases-loop-key l = into_iter_len l.rest
