-- Room that counts and keeps nothing.
use Rattle.std.specs.Prelude.{◌≡◌, ℕ, ◌+◌, List, ◌++◌, length, refl}
use Rattle.std.proofs.Common.{arith, length-append}
use Rattle.x509_der.specs.Element.{limit}
use Rattle.x509_der.specs.Writing.{Kind, IsKind}
use Rattle.x509_der.specs.declared.room.counting.Counting.{Counting}

abbrev pub counting : Kind Counting
counting = record { puts = λ bytes x y. y.count.octets ≡ length bytes + x.count.octets; count = λ x. x.count.octets; most = λ x. limit; lacks = ⊥ }

counted_further : (a b : List ℕ) (x y z : Counting) → y.count.octets ≡ length b + x.count.octets → z.count.octets ≡ length a + y.count.octets → z.count.octets ≡ length (a ++ b) + x.count.octets
counted_further a b x y z p q = omega (arith, p, q, length-append a b)

pub counting_lawful : IsKind counting
counting_lawful = record {
  nothing = λ x. omega arith;
  further = counted_further;
  counted = λ a x y p. p;
  same_most = λ a x y p. refl;
  within = λ x. omega arith;
}
