use Rattle.std.proofs.Common.{length, ◌-◌, ◌≡◌, ◌<◌, ◌≤◌, ◌+◌, ℕ, slice_index_or}
use Rattle.std.specs.declared.cmp.Ordering.TheVariants.{Less}
use Rattle.x509_der.specs.Order.{der_order}
use Rattle.x509_der.specs.Writing.{writes}
use Rattle.x509_der.proofs.set.places.is_rising.Given as goal

-- each item below i is below the next
abbrev pub invariant-loop-i : goal.invariant-loop-i
invariant-loop-i g l = (1 ≤ l.i) × ((k : ℕ) (d : _) → k + 1 < l.i → der_order g.T.Grammar.form (writes g.T.Encode.writing) g.T.ValueOrd.order (slice_index_or l.members k d) (slice_index_or l.members (k + 1) d) ≡ Less)

abbrev pub decreases-loop-i : goal.decreases-loop-i
decreases-loop-i g l = length l.members - l.i
