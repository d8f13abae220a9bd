use Rattle.std.proofs.Common.{◌≡◌, ◌++◌, take}
use Rattle.x509_constraints.proofs.address.push_octets.Given as goal

abbrev pub invariant-loop-octet : goal.invariant-loop-octet
invariant-loop-octet l = l.key ≡ l.initial.key ++ take l.octet-index l.octets
