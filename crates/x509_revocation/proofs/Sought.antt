-- What is found in a complete CRL and in the delta CRL to it.
use Rattle.std.proofs.Common.{◌≡◌, ℕ, true, false, is_some, option_map, inr, List, [], Option, Some, None, refl}
use Rattle.x509_check.specs.CrlRefs.{lent_entry}
use Rattle.x509_check.specs.declared.lent.entry.RevokedCertRef.{RevokedCertRef}
use Rattle.x509_ext.specs.declared.pkix.reasons.Reasons.{Reasons}
use Rattle.x509_path.specs.Certificates.{Certificate}
use Rattle.x509_revocation.specs.Crls.{Crl, Entry}
use Rattle.x509_revocation.specs.Entries.{FindsEntry}
use Rattle.x509_revocation.specs.Lent.{Steps, step_of}
use Rattle.x509_revocation.specs.Says.{FindsAt, GivenCrl, Question, Says, deltas_among}
use Rattle.x509_revocation.specs.Status.{AddsTo, minus}
use Rattle.x509_revocation.specs.declared.steps.Step.{Step}
use Rattle.x509_revocation.specs.declared.status.Revocation.{Revocation}

-- ---- the delta CRL, and the complete one

module _ (certificate : Certificate) (place : ℕ) (d : GivenCrl) where
  pub in_delta : (o : Option RevokedCertRef) → is_some o ≡ true → FindsEntry certificate d.crl (option_map lent_entry o) → (entry : Entry) × FindsEntry certificate d.crl (Some entry) × (option_map {U = ℕ × Entry} (λ (e : RevokedCertRef). (place, lent_entry e)) o ≡ Some (place, entry))
  in_delta None some finds = absurd cc
  in_delta (Some lent) some finds = (lent_entry lent, finds, refl)

  pub not_in_delta : (o : Option RevokedCertRef) → is_some o ≡ false → FindsEntry certificate d.crl (option_map lent_entry o) → FindsEntry certificate d.crl None
  not_in_delta None none finds = finds
  not_in_delta (Some lent) none finds = absurd cc

module _ (question : Question) (all : List GivenCrl) where
  pub used : question.use_deltas ≡ true → all ≡ deltas_among question all
  used is = rw is refl

  pub unused : question.use_deltas ≡ false → [] ≡ deltas_among question all
  unused is = rw is refl

-- in the complete one alone
pub found_at : (certificate : Certificate) (place : ℕ) (crl : Crl) (o : Option RevokedCertRef) → FindsEntry certificate crl (option_map lent_entry o) → FindsAt certificate place crl (option_map {U = ℕ × Entry} (λ (e : RevokedCertRef). (place, lent_entry e)) o)
found_at certificate place crl None finds = (None, finds, refl)
found_at certificate place crl (Some lent) finds = (Some (lent_entry lent), finds, refl)

-- ---- what there is behind a CRL

pub steps_of : (question : Question) (all : List GivenCrl) (place : ℕ) (left rest reasons : Reasons) (given : GivenCrl) (revoked : Option Revocation) (step : Step) → Says question all place given reasons revoked → AddsTo left reasons → rest ≡ minus left reasons → step ≡ step_of rest revoked → Steps question all place left given step
steps_of question all place left rest reasons given None step says adds same is = rw is (inr (reasons, says, adds, same))
steps_of question all place left rest reasons given (Some revocation) step says adds same is = rw is (reasons, says, adds)
