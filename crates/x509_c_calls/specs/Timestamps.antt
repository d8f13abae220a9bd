-- What a timestamp of version 1 says, by its places (RFC 6962 3.2).
use Rattle.std.specs.Prelude.{◌≡◌, ◌⊎◌, ℕ, List, [], ◌++◌}
use Rattle.x509_c_calls.specs.Place.{IsAt}
use Rattle.x509_c_calls.specs.declared.sct.timestamp.TimestampView.{TimestampView}
use Rattle.x509_c_calls.specs.declared.status.status.Status.{Status}
use Rattle.x509_c_calls.specs.declared.status.status.Status.TheVariants.{Done, Refused}
use Rattle.x509_der.specs.declared.error.ErrorKind.{ErrorKind}
use Rattle.x509_der.specs.declared.error.ErrorKind.TheVariants as errors
use Rattle.x509_sct.specs.DigitallySigned.{digitally_signed, hash_byte, signature_byte}
use Rattle.x509_sct.specs.Timestamp.{timestamp, version_byte}
use Rattle.x509_sct.specs.declared.timestamp.SignedCertificateTimestamp.{SignedCertificateTimestamp}
use Rattle.x509_sct.specs.Form.{Spells}
use Rattle.x509_sct.specs.Numbers.{uint64, vector16}
use Rattle.x509_sct.specs.declared.tls.error.TlsError.{TlsError}
use Rattle.x509_sct.specs.declared.tls.error.TlsError.TheVariants.{Memory}

-- what stands behind the extensions, and behind the ID of the log
abbrev pub signature_text : SignedCertificateTimestamp → List ℕ
signature_text it = digitally_signed.bytes it.signature

abbrev pub behind_log_id : SignedCertificateTimestamp → List ℕ
behind_log_id it = uint64.bytes it.timestamp ++ (vector16.bytes it.extensions ++ signature_text it)

-- what the view says of a timestamp in these bytes
pub record IsTimestamp (bytes : List ℕ) (it : SignedCertificateTimestamp) (view : TimestampView) : Type 0 where
  pub version : view.version ≡ version_byte it.version
  pub log_id : IsAt it.log_id.key_id (behind_log_id it) bytes view.log_id
  pub timestamp : view.timestamp ≡ it.timestamp
  pub extensions : IsAt it.extensions (signature_text it) bytes view.extensions
  pub hash : view.hash ≡ hash_byte it.signature.algorithm.hash
  pub signature_algorithm : view.signature_algorithm ≡ signature_byte it.signature.algorithm.signature
  pub signature : IsAt it.signature.signature [] bytes view.signature

-- an error of the TLS encoding as one of DER
abbrev pub refusal_of : TlsError → ErrorKind
refusal_of Memory = errors.Memory
refusal_of _ = errors.Malformed

-- What a call leaves that reads a timestamp: the bytes are one; or they are none, as Malformed, and the view is as it was; memory may always be refused.
unfoldable pub ReadsTimestamp : List ℕ → TimestampView → TimestampView → Status → Type 0
ReadsTimestamp bytes was is Done = (it : SignedCertificateTimestamp) × Spells timestamp it bytes × IsTimestamp bytes it is
ReadsTimestamp bytes was is (Refused e) =
    ((e ≡ errors.Memory) ⊎ ((e ≡ errors.Malformed) × ((it : SignedCertificateTimestamp) → Spells timestamp it bytes → ⊥))) × (is ≡ was)
ReadsTimestamp bytes was is _ = ⊥
