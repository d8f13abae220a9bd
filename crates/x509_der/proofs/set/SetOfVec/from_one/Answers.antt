use Rattle.std.specs.List.Sorted.{IsStrictlySortedBy}
use Rattle.x509_der.proofs.set.SetOfVec.from_one.Goals as goal

pub invariant_of-result : goal.invariant_of-result
unfolding IsStrictlySortedBy
invariant_of-result g c = rw c.from_one.ensures (tt, tt)
