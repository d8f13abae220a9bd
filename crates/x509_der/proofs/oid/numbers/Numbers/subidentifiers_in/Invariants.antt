use Rattle.std.proofs.Common.{◌≡◌, ◌≤◌, ◌++◌, Bool, true, drop, length}
use Rattle.x509_der.specs.ObjectIdentifier.{are_subidentifiers, subidentifiers_in}
use Rattle.x509_der.proofs.oid.numbers.Numbers.subidentifiers_in.Given as goal

abbrev pub invariant-loop-octet : goal.invariant-loop-octet
invariant-loop-octet l = record {
  so_far : l.numbers ++ subidentifiers_in l.high (drop l.octet-index l.content) ≡ subidentifiers_in 0 l.content;
  passes : (fresh : Bool) × (are_subidentifiers l.high fresh (drop l.octet-index l.content) ≡ true);
  room : length l.numbers ≤ l.octet-index;
}
