use Rattle.std.proofs.Common.{◌≡◌, ◌++◌, take}
use Rattle.x509_constraints.specs.AddressKeys.{spread}
use Rattle.x509_constraints.proofs.address.push_spread.Given as goal

abbrev pub invariant-loop-octet : goal.invariant-loop-octet
invariant-loop-octet l = l.key ≡ l.initial.key ++ spread (take l.octet-index l.name)
