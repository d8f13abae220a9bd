-- Signatures, apart from the other reasons.
use Rattle.std.proofs.Common.{◌≡◌, ◌↔◌, ◌⊎◌, inl, inr, ℕ, List, refl}
use Rattle.x509_base.specs.CivilTime.{CivilTime}
use Rattle.x509_cert.specs.Certificate.{rfc5280_certificate}
use Rattle.x509_cert.specs.Signed.{IsSignedPart}
use Rattle.x509_der.specs.Form.{Spells}
use Rattle.x509_path.specs.Certificates.{Accepting, Certificate, accept_all}
use Rattle.x509_path.specs.Path.{HasFault, PathHolds, faults_at}
use Rattle.x509_path.specs.declared.anchor.Anchor.{Anchor}
use Rattle.x509_path.specs.declared.fault.PathReason.{PathReason}
use Rattle.x509_path.specs.declared.fault.PathReason.TheVariants.{Signature}
use Rattle.x509_path.proofs.Along.{Follows, faults_apart}

module _ (moment : CivilTime) where
  -- no other reason asks the verifier
  others : (a b : Accepting) (r : PathReason) → (r ≡ Signature) ⊎ Follows (faults_at a moment) r (faults_at b moment)
  others a b Signature = inl refl
  others a b _ = inr (λ above before bytes path fault. fault)

  module _ (signed : (c : Certificate) (bytes : List ℕ) → Spells rfc5280_certificate c bytes → (part : List ℕ) × IsSignedPart bytes part) where
    accepted : (above : Anchor) (before : List Certificate) (bytes : List ℕ) (path : List (List ℕ)) → faults_at accept_all moment above before bytes path Signature → ⊥
    accepted above before bytes path (inl (unreadable, decode)) = cc
    accepted above before bytes path (inr (c, spells, is)) = let (part, stands) = signed c bytes spells in is (part, stands, refl)

    module _ (accepts : Accepting) (anchor : Anchor) (inputs : List (List ℕ)) where
      pub apart : PathHolds accepts moment anchor inputs ↔ (PathHolds accept_all moment anchor inputs × ((place : ℕ) → HasFault accepts moment anchor inputs place Signature → ⊥))
      apart =
          let faults = faults_apart Signature (λ a. faults_at a moment) others accepted accepts anchor inputs in
          ((λ (some, none). ((some, (faults.0 none).0), (faults.0 none).1)), (λ ((some, none), verified). (some, faults.1 (none, verified))))
