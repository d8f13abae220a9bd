use Rattle.std.proofs.Common.{◌≡◌, ◌≤◌, length, drop}
use Rattle.x509_constraints.specs.Address as addresses
use Rattle.x509_constraints.proofs.address.is_mask.Given as goal

abbrev pub invariant-loop-left : goal.invariant-loop-left
invariant-loop-left l =
    (l.left ≤ length l.mask) × (l.is_mask ≡ addresses.is_mask (drop l.left l.mask)) × (l.are_zeros ≡ addresses.is_zeros (drop l.left l.mask))

abbrev pub decreases-loop-left : goal.decreases-loop-left
decreases-loop-left l = l.left
