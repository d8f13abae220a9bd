-- There is one answer to a path that is validated, out of memory aside.
use Rattle.std.proofs.Common.{◌≡◌, ◌⊎◌, inl, inr, ℕ, List, [], ◌∷◌, Result, Ok, Err, IsOk, refl, ap, subst}
use Rattle.x509_path.proofs.Firsts.{one_place}
use Rattle.x509_path.specs.Certificates.{Accepting}
use Rattle.x509_path_steps.specs.Inputs.{Inputs}
use Rattle.x509_path_steps.specs.Validation.{Answers, AreUnusable, HasFault, IsFirstFault, PathIsValid, reasons}
use Rattle.x509_path_steps.specs.declared.validated.Validated.{Validated}
use Rattle.x509_path_steps.specs.declared.validation_fault.ValidationFault.{ValidationFault}
use Rattle.x509_path_steps.specs.declared.validation_fault.ValidationFault.TheVariants.{Memory, Empty, Initial, At}
use Rattle.x509_path_steps.specs.declared.validation_fault.ValidationReason.{ValidationReason}
use Rattle.x509_path_steps.specs.declared.validation_fault.ValidationReason.TheVariants.{Decode}

module _ (accepts : Accepting) (inputs : Inputs) (path : List (List ℕ)) where
  one_fault : (p q : ℕ) (r s : ValidationReason) → IsFirstFault accepts inputs path p r → IsFirstFault accepts inputs path q s → At p r ≡ At q s
  one_fault p q r s h k = let (place, reason) = one_place (HasFault accepts inputs path) (Decode ∷ reasons) p q r s h.first k.first h.lowest k.lowest in cc

  some_input : (p : ℕ) (r : ValidationReason) → HasFault accepts inputs path p r → path ≡ [] → ⊥
  some_input p r fault none = subst (λ xs. HasFault accepts inputs xs p r) none fault

  pub valid : (a : Result Validated ValidationFault) → PathIsValid accepts inputs path → Answers accepts inputs path a → IsOk a ⊎ (a ≡ Err Memory)
  valid (Ok v) h k = inl refl
  valid (Err Memory) h k = inr refl
  valid (Err Empty) h k = absurd (h.some k)
  valid (Err Initial) h k = absurd (h.usable k.1)
  valid (Err (At p r)) h k = absurd (h.no_fault p r k.1.first.has)

  pub faulty : (p : ℕ) (r : ValidationReason) (a : Result Validated ValidationFault) → (AreUnusable inputs → ⊥) → IsFirstFault accepts inputs path p r → Answers accepts inputs path a → (a ≡ Err (At p r)) ⊎ (a ≡ Err Memory)
  faulty p r (Ok v) usable h k = absurd (k.0.no_fault p r h.first.has)
  faulty p r (Err Memory) usable h k = inr refl
  faulty p r (Err Empty) usable h k = absurd (some_input p r h.first.has k)
  faulty p r (Err Initial) usable h k = absurd (usable k.1)
  faulty p r (Err (At q s)) usable h k = inl (ap (λ e. Err e) (one_fault q p s r k.1 h))
