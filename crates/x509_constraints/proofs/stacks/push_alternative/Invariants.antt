use Rattle.std.proofs.Common.{◌≡◌, ◌||◌, List, ℕ, length}
use Rattle.x509_constraints.specs.Prefixes.{has_prefix}
use Rattle.x509_constraints.specs.Stacks.{in_some}
use Rattle.x509_constraints.proofs.stacks.push_alternative.Given as goal

abbrev pub invariant-loop-below : goal.invariant-loop-below
invariant-loop-below l =
    (key : List ℕ) → (in_some l.sets.items key || has_prefix l.top key) ≡ (in_some l.initial.sets.items key || has_prefix l.fn.set key)

abbrev pub decreases-loop-below : goal.decreases-loop-below
decreases-loop-below l = length l.sets.items
