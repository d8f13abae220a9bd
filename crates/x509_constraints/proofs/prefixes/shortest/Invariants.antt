use Rattle.std.specs.Vec.Iter.{into_iter_items, into_iter_len}
use Rattle.x509_constraints.proofs.Sweep.{IsSwept}
use Rattle.x509_constraints.proofs.prefixes.shortest.Given as goal

abbrev pub invariant-loop-key : goal.invariant-loop-key
invariant-loop-key l = IsSwept l.fn.keys.items l.kept.items (into_iter_items l.rest)

abbrev pub decreases-loop-key : goal.decreases-loop-key
decreases-loop-key l = into_iter_len l.rest
