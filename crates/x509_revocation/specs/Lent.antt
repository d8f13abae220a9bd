-- What is lent of CRLs and of their signers.
use Rattle.std.specs.Prelude.{◌≡◌, ◌⊎◌, ℕ, List, [], ◌∷◌, Option, Some, None}
use Rattle.x509_cert.specs.CertificateList.{rfc5280_certificate_list}
use Rattle.x509_der.specs.Form.{Spells}
use Rattle.x509_ext.specs.declared.pkix.reasons.Reasons.{Reasons}
use Rattle.x509_path.specs.Certificates.{Accepting, Certificate}
use Rattle.x509_path.specs.Lent.{LendsAnchor}
use Rattle.x509_path.specs.declared.anchor.Anchor.{Anchor}
use Rattle.x509_path.specs.declared.anchor_ref.AnchorRef.{AnchorRef}
use Rattle.x509_revocation.specs.Crls.{Crl}
use Rattle.x509_revocation.specs.Says.{GivenCrl, Question, Says}
use Rattle.x509_revocation.specs.Status.{AddsTo, IsUnused, minus}
use Rattle.x509_revocation.specs.declared.steps.Step.{Step}
use Rattle.x509_revocation.specs.declared.steps.Step.TheVariants.{Left, Revoked}
use Rattle.x509_revocation.specs.declared.settings.RevocationSettings.{RevocationSettings}
use Rattle.x509_revocation.specs.declared.signed_crl.SignedCrl.{SignedCrl}
use Rattle.x509_revocation.specs.declared.status.Revocation.{Revocation}

-- the bytes are those of the CRL
abbrev pub LendsCrl : List ℕ → Crl → Type 0
LendsCrl bytes crl = Spells rfc5280_certificate_list crl bytes

-- the name and the key; None where these are the encodings of none
abbrev pub LendsSigner : AnchorRef → Option Anchor → Type 0
LendsSigner lent None = (signer : Anchor) → LendsAnchor lent signer → ⊥
LendsSigner lent (Some signer) = LendsAnchor lent signer

pub record LendsGiven (lent : SignedCrl) (given : GivenCrl) : Type 0 where
  pub bytes : lent.crl.now.bytes.now ≡ given.bytes
  pub crl : LendsCrl lent.crl.now.bytes.now given.crl
  pub signer : LendsSigner lent.signer given.signer

-- the same of one whose signer's name and key are a name and a key
pub record LendsNamed (lent : SignedCrl) (given : GivenCrl) : Type 0 where
  pub lends : LendsGiven lent given
  pub signer : Anchor
  pub is : given.signer ≡ Some signer

abbrev pub LendsAll : List SignedCrl → List GivenCrl → Type 0
LendsAll [] [] = Unit {0}
LendsAll (l ∷ lent) (g ∷ given) = LendsGiven l g × LendsAll lent given
LendsAll _ _ = ⊥

-- what is asked with these settings and this verifier
abbrev pub question : Accepting → RevocationSettings → Certificate → Question
question accepts settings certificate = record { certificate = certificate; moment = settings.moment; without_next = settings.without_next_update; use_deltas = settings.use_deltas; accepts = accepts }

-- ---- what is answered of one CRL

-- where these reasons are left: it is used and says when the certificate was revoked, or it leaves the others, or it isn't used
abbrev pub Steps : Question → List GivenCrl → ℕ → Reasons → GivenCrl → Step → Type 0
Steps question all place left given (Left rest) =
    (IsUnused question all place left given × (rest ≡ left))
    ⊎ ((reasons : Reasons) × Says question all place given reasons None × AddsTo left reasons × (rest ≡ minus left reasons))
Steps question all place left given (Revoked revocation) = (reasons : Reasons) × Says question all place given reasons (Some revocation) × AddsTo left reasons

-- what there is behind a CRL that says so of the certificate, where these reasons are left then
abbrev pub step_of : Reasons → Option Revocation → Step
step_of rest None = Left rest
step_of rest (Some revocation) = Revoked revocation
