-- What a call leaves that checks a path of certificates apart from their signatures.
use Rattle.std.specs.Prelude.{◌≡◌, ◌<◌, ◌≤◌, ◌⊎◌, ℕ, List, []}
use Rattle.x509_base.specs.CivilTime.{CivilTime, IsDateTime, last_date_time, unix_seconds}
use Rattle.x509_c_calls.specs.Pieces.{AreCut}
use Rattle.x509_c_calls.specs.declared.path.path.Fault.{Fault}
use Rattle.x509_c_calls.specs.declared.status.status.Status.{Status}
use Rattle.x509_c_calls.specs.declared.status.status.Status.TheVariants as statuses
use Rattle.x509_cert.specs.Certificate.{rfc5280_certificate}
use Rattle.x509_der.specs.declared.error.ErrorKind.{ErrorKind}
use Rattle.x509_der.specs.declared.error.ErrorKind.TheVariants as kinds
use Rattle.x509_der.specs.Form.{Spells}
use Rattle.x509_path.specs.Certificates.{Certificate, accept_all}
use Rattle.x509_path.specs.Path.{IsFirstFault, PathHolds, subject_of}
use Rattle.x509_path.specs.declared.anchor.Anchor.{Anchor}
use Rattle.x509_path.specs.declared.fault.PathReason.{PathReason}
use Rattle.x509_path.specs.declared.fault.PathReason.TheVariants.{Decode, Algorithm, Issuer, Moment, Signature, Repeated, Critical, NotCa, KeyUsage, PathLen}
use Rattle.x509_types.specs.Reencoding.{IsRefused}

-- the number of a reason
abbrev pub reason_code : PathReason → ℕ
reason_code Decode = 1
reason_code Algorithm = 2
reason_code Issuer = 3
reason_code Moment = 4
reason_code Signature = 5
reason_code Repeated = 6
reason_code Critical = 7
reason_code NotCa = 8
reason_code KeyUsage = 9
reason_code PathLen = 10

-- What is left of a path of these inputs, where all bits are taken for signatures. Done: it holds. Faulty: its first fault is filled in. Absent: there
-- is no input. Else memory was refused. What isn't filled in stays as it was.
unfoldable pub Tells : CivilTime → Anchor → List (List ℕ) → Fault → Fault → Status → Type 0
Tells moment anchor inputs was is statuses.Done = PathHolds accept_all moment anchor inputs × (is ≡ was)
Tells moment anchor inputs was is statuses.Faulty = (reason : PathReason) × IsFirstFault accept_all moment anchor inputs is.place reason × (is.reason ≡ reason_code reason)
Tells moment anchor inputs was is statuses.Absent = (inputs ≡ []) × (is ≡ was)
Tells moment anchor inputs was is (statuses.Refused e) = (e ≡ kinds.Memory) × (is ≡ was)
Tells moment anchor inputs was is statuses.NoRoom = ⊥
Tells moment anchor inputs was is statuses.Repeated = ⊥
Tells moment anchor inputs was is statuses.Limit = ⊥

-- bytes that are cut by lengths, a moment in seconds, and an anchor's certificate
pub record Asked (anchor_bytes bytes lens : List ℕ) (seconds : ℕ) : Type 0 where
  pub certificate : Certificate
  pub moment : CivilTime
  pub inputs : List (List ℕ)
  pub spelled : Spells rfc5280_certificate certificate anchor_bytes
  pub real : IsDateTime moment
  pub at : unix_seconds moment ≡ seconds
  pub cut : AreCut bytes lens inputs

-- why such a call is refused before the path is looked at
abbrev pub IsRefusedCall : (ErrorKind → Type 0) → List ℕ → List ℕ → List ℕ → ℕ → ErrorKind → Type 0
IsRefusedCall refuses anchor_bytes bytes lens seconds e =
    ((e ≡ kinds.Memory) × (seconds ≤ unix_seconds last_date_time))
    ⊎ (((e ≡ kinds.Value) × (unix_seconds last_date_time < seconds))
    ⊎ (((e ≡ kinds.Failed) × ((inputs : List (List ℕ)) → AreCut bytes lens inputs → ⊥))
    ⊎ IsRefused rfc5280_certificate refuses anchor_bytes e))

-- What a call leaves that checks the path of the pieces at the moment, under the subject and the key of the anchor's certificate. refuses are the
-- errors of a certificate's own in reading.
unfoldable pub ChecksPath : (ErrorKind → Type 0) → List ℕ → List ℕ → List ℕ → ℕ → Fault → Fault → Status → Type 0
ChecksPath refuses anchor_bytes bytes lens seconds was is status =
    ((asked : Asked anchor_bytes bytes lens seconds) × Tells asked.moment (subject_of asked.certificate) asked.inputs was is status)
    ⊎ ((e : ErrorKind) × (status ≡ statuses.Refused e) × (is ≡ was) × IsRefusedCall refuses anchor_bytes bytes lens seconds e)
