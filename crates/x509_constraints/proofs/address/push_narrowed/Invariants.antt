use Rattle.std.proofs.Common.{◌≡◌, ◌++◌, take}
use Rattle.x509_constraints.specs.AddressKeys.{narrowed}
use Rattle.x509_constraints.proofs.address.push_narrowed.Given as goal

abbrev pub invariant-loop-i : goal.invariant-loop-i
invariant-loop-i l = l.key ≡ l.initial.key ++ narrowed (take l.i l.address) (take l.i l.mask)
