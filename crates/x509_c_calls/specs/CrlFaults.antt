-- What a call leaves that asks why a CRL says nothing of a certificate, where signatures were verified before.
use Rattle.std.specs.List.{slice_get}
use Rattle.std.specs.Prelude.{◌≡◌, ◌≤◌, ◌⊎◌, ◌==◌, ℕ, List, length, Option, Some, None}
use Rattle.x509_c_calls.specs.RevocationStatus.{AreParts, AskedStatus, AsksNoStatus, IsNotGiven, Refusing}
use Rattle.x509_c_calls.specs.declared.revocation.SignedCrlSpans.{SignedCrlSpans}
use Rattle.x509_c_calls.specs.declared.status.status.Status.{Status}
use Rattle.x509_c_calls.specs.declared.status.status.Status.TheVariants as statuses
use Rattle.x509_der.specs.declared.error.ErrorKind.{ErrorKind}
use Rattle.x509_der.specs.declared.error.ErrorKind.TheVariants as kinds
use Rattle.x509_path.specs.Certificates.{Accepting}
use Rattle.x509_revocation.specs.Faults.{HasFault}
use Rattle.x509_revocation.specs.Lent.{question}
use Rattle.x509_revocation.specs.Says.{GivenCrl}
use Rattle.x509_revocation.specs.declared.fault.CrlFault.{CrlFault}
use Rattle.x509_revocation.specs.declared.fault.CrlFault.TheVariants.{NotYetValid, Expired, Critical, Algorithm, Delta, IssuingPoint, Issuer, Scope, Point, Signer, Signature, Entry, Replaced}

-- 0 where there is none
abbrev pub fault_number : Option CrlFault → ℕ
fault_number None = 0
fault_number (Some NotYetValid) = 1
fault_number (Some Expired) = 2
fault_number (Some Critical) = 3
fault_number (Some Algorithm) = 4
fault_number (Some Delta) = 5
fault_number (Some IssuingPoint) = 6
fault_number (Some Issuer) = 7
fault_number (Some Scope) = 8
fault_number (Some Point) = 9
fault_number (Some Signer) = 10
fault_number (Some Signature) = 11
fault_number (Some Entry) = 12
fault_number (Some Replaced) = 13

-- what is answered of the signature of a CRL: that it is one where the caller has verified it
abbrev pub marked : SignedCrlSpans → Accepting
marked spans algorithm key message bits = spans.verified == 1

-- why the CRL at that place isn't asked for its fault
abbrev pub AsksNoFault : Refusing → List ℕ → List ℕ → List SignedCrlSpans → List ℕ → ℕ → ErrorKind → Type 0
AsksNoFault refuses certificate bytes crls settings place e =
    AsksNoStatus refuses certificate bytes crls settings e
    ⊎ (((e ≡ kinds.Value) × (length crls ≤ place))
    ⊎ ((spans : SignedCrlSpans) × (slice_get crls place ≡ Some spans) × IsNotGiven refuses bytes spans e))

-- What is left by a call that asks for the fault of the CRL at that place. Done: it is the one that the CRL has among those that the caller has verified; of
-- one that isn't verified no signature is taken for one. Else nothing has changed.
unfoldable pub TellsFault : Refusing → List ℕ → List ℕ → List SignedCrlSpans → List ℕ → ℕ → ℕ → ℕ → Status → Type 0
TellsFault refuses certificate bytes crls settings place was is status =
    ((asked : AskedStatus certificate bytes crls settings) × (spans : SignedCrlSpans) × (one : GivenCrl) × (found : Option CrlFault) × (status ≡ statuses.Done)
    × (slice_get crls place ≡ Some spans) × AreParts bytes spans one
    × HasFault (question (marked spans) asked.settings asked.certificate) asked.given one found × (is ≡ fault_number found))
    ⊎ ((e : ErrorKind) × (status ≡ statuses.Refused e) × (is ≡ was) × AsksNoFault refuses certificate bytes crls settings place e)
