use Rattle.std.proofs.Common.{◌≡◌, ◌&&◌, List, ℕ, length}
use Rattle.x509_constraints.specs.Prefixes.{has_prefix}
use Rattle.x509_constraints.specs.Stacks.{in_all}
use Rattle.x509_constraints.proofs.stacks.push_required.Given as goal

abbrev pub invariant-loop-below : goal.invariant-loop-below
invariant-loop-below l =
    (key : List ℕ) → (in_all l.sets.items key && has_prefix l.top key) ≡ (in_all l.initial.sets.items key && has_prefix l.fn.set key)

abbrev pub decreases-loop-below : goal.decreases-loop-below
decreases-loop-below l = length l.sets.items
