-- Room that grows as it is filled, up to the limit.
use Rattle.std.specs.Prelude.{◌≡◌, ℕ, List, ◌++◌, length, refl}
use Rattle.std.proofs.Common.{arith, ap, sym, ◌∙◌, append_assoc, length-append}
use Rattle.x509_der.specs.Element.{limit}
use Rattle.x509_der.specs.Writing.{Kind, IsKind}

abbrev pub growing : Kind (List ℕ)
growing = record { puts = λ bytes x y. y ≡ bytes ++ x; count = length; most = λ x. limit; lacks = Unit {0} }

grown_further : (a b x y z : List ℕ) → y ≡ b ++ x → z ≡ a ++ y → z ≡ (a ++ b) ++ x
grown_further a b x y z p q = q ∙ ap (λ (s : List ℕ). a ++ s) p ∙ sym (append_assoc a b x)

pub growing_lawful : IsKind growing
growing_lawful = record {
  nothing = λ x. refl;
  further = grown_further;
  counted = λ a x y p. ap length p ∙ length-append a x;
  same_most = λ a x y p. refl;
  within = λ x. omega arith;
}
