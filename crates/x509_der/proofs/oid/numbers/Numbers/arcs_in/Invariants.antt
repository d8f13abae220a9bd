use Rattle.std.proofs.Common.{◌≡◌, ◌≤◌, map, length}
use Rattle.std.specs.Fmt.{decimal}
use Rattle.x509_der.specs.Arcs.{AreSmall}
use Rattle.x509_der.proofs.oid.numbers.Numbers.arcs_in.Given as goal

abbrev pub invariant-loop-part : goal.invariant-loop-part
invariant-loop-part l = record {
  can_next : (goal.iterator-loop-part).can_next l.part-iterator;
  is_finite : (goal.iterator-loop-part).is_finite l.part-iterator;
  read : map decimal l.numbers ≡ map (λ part. part.now) l.yielded;
  small : AreSmall l.numbers;
  room : length l.numbers ≤ 40;
}
