-- What calls from C answer clients of logs: the signed part that a log has, and what a timestamp is a signature of (RFC 6962 3.2).
use Rattle.std.specs.Prelude.{◌≡◌, ◌⊎◌, ◌≤◌, ◌<◌, ℕ, List, [], length, Result, Ok, Err}
use Rattle.std.proofs.Common.{inl, inr}
use Rattle.sha2.specs.Sha256.{sha256}
use Rattle.x509_base.specs.SubjectPublicKeyInfo.{subject_public_key_info}
use Rattle.x509_c_calls.specs.Built.{FillsUnrepeated}
use Rattle.x509_c_calls.specs.Timestamps.{refusal_of}
use Rattle.x509_c_calls.specs.declared.status.status.Status.{Status}
use Rattle.x509_c_calls.specs.declared.status.status.Status.TheVariants.{Done, NoRoom, Absent, Repeated, Faulty, Limit, Refused}
use Rattle.x509_cert.specs.Certificate.{rfc5280_certificate}
use Rattle.x509_cert.specs.TbsCertificate.{rfc5280_tbs_certificate}
use Rattle.x509_der.specs.Element.{limit}
use Rattle.x509_der.specs.declared.error.ErrorKind.{ErrorKind}
use Rattle.x509_der.specs.declared.error.ErrorKind.TheVariants as kinds
use Rattle.x509_der.specs.Form.{spelling, Spells as IsDer}
use Rattle.x509_ext.specs.LookUp.{members, with_oid}
use Rattle.x509_log.specs.Logged.{HasOne, IsReissued, RefusesReissue, without}
use Rattle.x509_log.specs.declared.error.LogError.{LogError}
use Rattle.x509_log.specs.declared.error.LogError.TheVariants as errors
use Rattle.x509_path.specs.Certificates.{Certificate}
use Rattle.x509_sct.specs.Form.{Spells}
use Rattle.x509_sct.specs.Identifier.{embedded_timestamps}
use Rattle.x509_sct.specs.Numbers.{vector24}
use Rattle.x509_sct.specs.SignedInput.{Entry, signed_input}
use Rattle.x509_sct.specs.Timestamp.{timestamp}
use Rattle.x509_sct.specs.declared.entry.SignatureType.TheVariants.{CertificateTimestamp}
use Rattle.x509_sct.specs.declared.timestamp.SignedCertificateTimestamp.{SignedCertificateTimestamp}
use Rattle.x509_sct.specs.declared.tls.error.TlsError.{TlsError}
use Rattle.x509_sct.specs.declared.tls.error.TlsError.TheVariants.{InvalidVectorLength}
use Rattle.x509_types.specs.Reencoding.{IsRefused}

-- What a call leaves that hands over bytes of what it found: as FillsUnrepeated says; or it answers Absent, and then room and number are as they were.
unfoldable pub FillsFound : (Result (List ℕ) Status → Type 0) → List ℕ → List ℕ → ℕ → ℕ → Status → Type 0
FillsFound answers room filled was written Absent = answers (Err Absent) × (written ≡ was) × (filled ≡ room)
FillsFound answers room filled was written Done = FillsUnrepeated answers room filled was written Done
FillsFound answers room filled was written NoRoom = FillsUnrepeated answers room filled was written NoRoom
FillsFound answers room filled was written (Refused e) = FillsUnrepeated answers room filled was written (Refused e)
FillsFound answers room filled was written Repeated = FillsUnrepeated answers room filled was written Repeated
FillsFound answers room filled was written Faulty = ⊥
FillsFound answers room filled was written Limit = ⊥

-- an error of a call on a certificate that is logged, as a status
abbrev pub status_of : LogError → Status
status_of errors.Absent = Absent
status_of errors.Repeated = Repeated
status_of (errors.Der e) = Refused e.kind
status_of (errors.Tls e) = Refused (refusal_of e)

-- ---- the signed part without one extension

-- the bytes are a certificate that has the extension once, and the octets are its TBSCertificate without that
pub record IsCut (oid bytes octets : List ℕ) : Type 0 where
  pub certificate : Certificate
  pub read : IsDer rfc5280_certificate certificate bytes
  pub one : HasOne oid certificate.tbs_certificate
  pub is : IsDer rfc5280_tbs_certificate (without oid certificate.tbs_certificate) octets

-- why none is cut: the bytes are no certificate, or one without the extension, or with two or more of them
abbrev pub IsUncut : (ErrorKind → Type 0) → List ℕ → List ℕ → Status → Type 0
IsUncut refuses oid bytes status =
    ((e : ErrorKind) × (status ≡ Refused e) × IsRefused rfc5280_certificate refuses bytes e)
    ⊎ ((certificate : Certificate) × IsDer rfc5280_certificate certificate bytes
    × (((status ≡ Absent) × (with_oid oid (members certificate.tbs_certificate.extensions) ≡ []))
    ⊎ ((status ≡ Repeated) × (2 ≤ length (with_oid oid (members certificate.tbs_certificate.extensions))))))

abbrev pub Cuts : (ErrorKind → Type 0) → List ℕ → List ℕ → Result (List ℕ) Status → Type 0
Cuts refuses oid bytes (Ok octets) = IsCut oid bytes octets
Cuts refuses oid bytes (Err status) = IsUncut refuses oid bytes status

-- ---- a precertificate that a precertificate signing certificate signed

-- both are certificates, and the octets are the TBSCertificate under the final issuer
pub record IsCutReissued (bytes signing octets : List ℕ) : Type 0 where
  pub certificate : Certificate
  pub read : IsDer rfc5280_certificate certificate bytes
  pub above : Certificate
  pub read_above : IsDer rfc5280_certificate above signing
  pub is : IsReissued rfc5280_tbs_certificate certificate.tbs_certificate above.tbs_certificate octets

-- Why none is cut: one of them is no certificate; or what has to be there once isn't; or the octets are more than an element may have.
abbrev pub IsUncutReissued : (ErrorKind → Type 0) → List ℕ → List ℕ → Status → Type 0
IsUncutReissued refuses bytes signing status =
    ((e : ErrorKind) × (status ≡ Refused e) × IsRefused rfc5280_certificate refuses bytes e)
    ⊎ (((e : ErrorKind) × (status ≡ Refused e) × IsRefused rfc5280_certificate refuses signing e)
    ⊎ ((certificate above : Certificate) × IsDer rfc5280_certificate certificate bytes × IsDer rfc5280_certificate above signing
    × (((e : LogError) × (status ≡ status_of e) × RefusesReissue certificate.tbs_certificate above.tbs_certificate e)
    ⊎ ((octets : List ℕ) × (status ≡ Refused kinds.Overlength) × IsReissued rfc5280_tbs_certificate certificate.tbs_certificate above.tbs_certificate octets
    × (limit < length octets)))))

abbrev pub CutsReissued : (ErrorKind → Type 0) → List ℕ → List ℕ → Result (List ℕ) Status → Type 0
CutsReissued refuses bytes signing (Ok octets) = IsCutReissued bytes signing octets × (length octets ≤ limit)
CutsReissued refuses bytes signing (Err status) = IsUncutReissued refuses bytes signing status

-- ---- what is signed

-- an error of putting what is signed together
abbrev pub unsigned_of : TlsError → ErrorKind
unsigned_of InvalidVectorLength = kinds.Overlength
unsigned_of e = refusal_of e

-- the bytes are a timestamp, and the octets are what its signature of the entry is over
pub record IsDataOf (entry : Entry) (bytes octets : List ℕ) : Type 0 where
  pub it : SignedCertificateTimestamp
  pub says : Spells timestamp it bytes
  pub is : Spells signed_input (it.version, (CertificateTimestamp, (it.timestamp, (entry, it.extensions)))) octets

-- why there are none: the bytes are no timestamp, or the certificate of the entry has more octets than an entry may have
abbrev pub IsNoDataOf : List ℕ → List ℕ → ErrorKind → Type 0
IsNoDataOf certificate bytes e =
    ((e ≡ kinds.Malformed) × ((it : SignedCertificateTimestamp) → Spells timestamp it bytes → ⊥)) ⊎ ((e ≡ kinds.Overlength) × (vector24.good certificate → ⊥))

-- of a timestamp that came beside the certificate: the entry is the certificate
abbrev pub SignsCertificate : List ℕ → List ℕ → Result (List ℕ) ErrorKind → Type 0
SignsCertificate bytes certificate (Ok octets) = IsDataOf (inl certificate) bytes octets
SignsCertificate bytes certificate (Err e) = IsNoDataOf certificate bytes e

-- of a timestamp that stands in the certificate: the entry is the hash of the issuer's key and the signed part without timestamps
pub record IsEmbeddedData (bytes certificate issuer octets : List ℕ) : Type 0 where
  pub part : List ℕ
  pub cut : IsCut embedded_timestamps certificate part
  pub above : Certificate
  pub read : IsDer rfc5280_certificate above issuer
  pub is : IsDataOf (inr (sha256 (spelling subject_public_key_info above.tbs_certificate.subject_public_key_info), part)) bytes octets

abbrev pub SignsEmbedded : (ErrorKind → Type 0) → List ℕ → List ℕ → List ℕ → Result (List ℕ) Status → Type 0
SignsEmbedded refuses bytes certificate issuer (Ok octets) = IsEmbeddedData bytes certificate issuer octets
SignsEmbedded refuses bytes certificate issuer (Err status) =
    IsUncut refuses embedded_timestamps certificate status
    ⊎ (((e : ErrorKind) × (status ≡ Refused e) × IsRefused rfc5280_certificate refuses issuer e)
    ⊎ ((e : ErrorKind) × (part : List ℕ) × (status ≡ Refused e) × IsCut embedded_timestamps certificate part × IsNoDataOf part bytes e))
