-- There is one answer to a path, out of memory aside.
use Rattle.std.proofs.Common.{◌≡◌, ◌⊎◌, inl, inr, ℕ, List, [], ◌∷◌, Result, Ok, Err, refl, ap, subst}
use Rattle.x509_base.specs.CivilTime.{CivilTime}
use Rattle.x509_path.specs.Certificates.{Accepting}
use Rattle.x509_path.specs.Path.{Answers, HasFault, IsFirstFault, PathHolds, reasons}
use Rattle.x509_path.specs.declared.anchor.Anchor.{Anchor}
use Rattle.x509_path.specs.declared.fault.PathFault.{PathFault}
use Rattle.x509_path.specs.declared.fault.PathFault.TheVariants.{Memory, Empty, At}
use Rattle.x509_path.specs.declared.fault.PathReason.{PathReason}
use Rattle.x509_path.specs.declared.fault.PathReason.TheVariants.{Decode}
use Rattle.x509_path.proofs.Firsts.{one_place}

module _ (accepts : Accepting) (moment : CivilTime) (anchor : Anchor) (inputs : List (List ℕ)) where
  one_fault : (p q : ℕ) (r s : PathReason) → IsFirstFault accepts moment anchor inputs p r → IsFirstFault accepts moment anchor inputs q s → At p r ≡ At q s
  one_fault p q r s h k = let (place, reason) = one_place (HasFault accepts moment anchor inputs) (Decode ∷ reasons) p q r s h.first k.first h.lowest k.lowest in cc

  some_input : (p : ℕ) (r : PathReason) → HasFault accepts moment anchor inputs p r → inputs ≡ [] → ⊥
  some_input p r fault none = subst (λ xs. HasFault accepts moment anchor xs p r) none fault

  pub one : (a b : Result Unit PathFault) → Answers accepts moment anchor inputs a → Answers accepts moment anchor inputs b → (a ≡ b) ⊎ ((a ≡ Err Memory) ⊎ (b ≡ Err Memory))
  one (Ok u) (Ok v) h k = inl refl
  one (Ok u) (Err Memory) h k = inr (inr refl)
  one (Ok u) (Err Empty) h k = absurd (h.0 k)
  one (Ok u) (Err (At p r)) h k = absurd (h.1 p r k.first.has)
  one (Err Memory) b h k = inr (inl refl)
  one (Err Empty) (Ok v) h k = absurd (k.0 h)
  one (Err Empty) (Err Memory) h k = inr (inr refl)
  one (Err Empty) (Err Empty) h k = inl refl
  one (Err Empty) (Err (At p r)) h k = absurd (some_input p r k.first.has h)
  one (Err (At p r)) (Ok v) h k = absurd (k.1 p r h.first.has)
  one (Err (At p r)) (Err Memory) h k = inr (inr refl)
  one (Err (At p r)) (Err Empty) h k = absurd (some_input p r h.first.has k)
  one (Err (At p r)) (Err (At q s)) h k = inl (ap (λ e. Err e) (one_fault p q r s h k))

  answered : (a b : Result Unit PathFault) → (b ≡ Err Memory → ⊥) → Answers accepts moment anchor inputs a → Answers accepts moment anchor inputs b → (a ≡ b) ⊎ (a ≡ Err Memory)
  answered a b other h k = elim (one a b h k) [
    | inl same ↦ inl same
    | inr (inl memory) ↦ inr memory
    | inr (inr memory) ↦ absurd (other memory)
  ]

  pub holds : (a : Result Unit PathFault) → PathHolds accepts moment anchor inputs → Answers accepts moment anchor inputs a → (a ≡ Ok tt) ⊎ (a ≡ Err Memory)
  holds a path h = answered a (Ok tt) (λ e. cc) h path

  pub faulty : (p : ℕ) (r : PathReason) (a : Result Unit PathFault) → IsFirstFault accepts moment anchor inputs p r → Answers accepts moment anchor inputs a → (a ≡ Err (At p r)) ⊎ (a ≡ Err Memory)
  faulty p r a fault h = answered a (Err (At p r)) (λ e. cc) h fault
