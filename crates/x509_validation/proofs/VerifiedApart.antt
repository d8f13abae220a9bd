-- Signatures, apart from the other reasons, where a path is validated.
use Rattle.std.proofs.Common.{◌≡◌, ◌↔◌, ◌⊎◌, inl, inr, ℕ, List, refl}
use Rattle.x509_cert.specs.Certificate.{rfc5280_certificate}
use Rattle.x509_cert.specs.Signed.{IsSignedPart}
use Rattle.x509_der.specs.Form.{Spells}
use Rattle.x509_path.proofs.Along.{Follows, faults_apart}
use Rattle.x509_path.specs.Certificates.{Accepting, Certificate, accept_all}
use Rattle.x509_path.specs.declared.anchor.Anchor.{Anchor}
use Rattle.x509_path_steps.specs.Inputs.{Inputs}
use Rattle.x509_path_steps.specs.Validation.{HasFault, PathIsValid, faults_at}
use Rattle.x509_path_steps.specs.declared.validation_fault.ValidationReason.{ValidationReason}
use Rattle.x509_path_steps.specs.declared.validation_fault.ValidationReason.TheVariants.{Signature}

module _ (inputs : Inputs) where
  -- no other reason asks the verifier
  others : (a b : Accepting) (r : ValidationReason) → (r ≡ Signature) ⊎ Follows (faults_at a inputs) r (faults_at b inputs)
  others a b Signature = inl refl
  others a b _ = inr (λ above before bytes path fault. fault)

  module _ (signed : (c : Certificate) (bytes : List ℕ) → Spells rfc5280_certificate c bytes → (part : List ℕ) × IsSignedPart bytes part) where
    accepted : (above : Anchor) (before : List Certificate) (bytes : List ℕ) (path : List (List ℕ)) → faults_at accept_all inputs above before bytes path Signature → ⊥
    accepted above before bytes path (inl (unreadable, decode)) = cc
    accepted above before bytes path (inr (c, spells, is)) = let (part, stands) = signed c bytes spells in is (part, stands, refl)

    module _ (accepts : Accepting) (path : List (List ℕ)) where
      pub verified_apart : PathIsValid accepts inputs path ↔ (PathIsValid accept_all inputs path × ((place : ℕ) → HasFault accepts inputs path place Signature → ⊥))
      verified_apart =
          let faults = faults_apart Signature (λ a. faults_at a inputs) others accepted accepts inputs.trust.anchor path in (
            (λ h. let (none, verified) = faults.0 h.no_fault in (record { some = h.some; usable = h.usable; no_fault = none }, verified)),
            (λ (h, verified). record { some = h.some; usable = h.usable; no_fault = faults.1 (h.no_fault, verified) }),
          )
