use Rattle.std.proofs.Common.{◌≡◌, ◌++◌, take}
use Rattle.x509_constraints.specs.Keys.{symbols}
use Rattle.x509_constraints.proofs.distinguished.push_attribute.Given as goal

abbrev pub invariant-loop-octet : goal.invariant-loop-octet
invariant-loop-octet l = l.key ≡ l.initial.key ++ symbols (symbols (take l.octet-index l.octets))
