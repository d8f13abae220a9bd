use Rattle.std.proofs.Common.{◌≡◌, ◌<◌, drop, nat_eq, true}
use Rattle.x509_der.specs.ObjectIdentifier.{are_subidentifiers}
use Rattle.x509_der.proofs.oid.identifier.are_subidentifiers.Given as goal

abbrev pub invariant-loop-octet : goal.invariant-loop-octet
invariant-loop-octet l = record {
  so_far : are_subidentifiers l.high (nat_eq l.high 0) (drop l.octet-index l.octets) ≡ are_subidentifiers 0 true l.octets;
  small : l.high < 4294967296;
}
