-- What a certificate says, and where its parts stand in its bytes (RFC 5280 4.1.2).
use Rattle.std.specs.Prelude.{◌≡◌, ℕ, List, ◌++◌, Option, Some, None}
use Rattle.x509_base.specs.AlgorithmIdentifier.{algorithm_identifier}
use Rattle.x509_base.specs.SubjectPublicKeyInfo.{subject_public_key_info}
use Rattle.x509_base.specs.Serial.{serial_number}
use Rattle.x509_base.specs.CivilTime.{unix_seconds}
use Rattle.x509_base.specs.Time.{date_time_of}
use Rattle.x509_base.specs.Validity.{validity}
use Rattle.x509_c_calls.specs.declared.certificate.view.CertificateView.{CertificateView}
use Rattle.x509_c_calls.specs.Place.{IsAt}
use Rattle.x509_c_calls.specs.declared.place.span.Span.{Span}
use Rattle.x509_cert.specs.Respelling.{no_check}
use Rattle.x509_cert.specs.declared.certificate.certificate.CertificateInner.{CertificateInner}
use Rattle.x509_cert.specs.declared.certificate.version.Version.{Version}
use Rattle.x509_cert.specs.declared.certificate.version.Version.TheVariants.{V1, V2, V3}
use Rattle.x509_der.specs.Frames.{explicit, implicit, optional_octets}
use Rattle.x509_der.specs.Form.{Form, spelling}
use Rattle.x509_ext.specs.Extension.{extensions}
use Rattle.x509_name.specs.Names.{name}
use Rattle.x509_prim.specs.BitString.{BitParts, bit_string}

abbrev pub version_of : Version → ℕ
version_of V1 = 1
version_of V2 = 2
version_of V3 = 3

-- the bytes of a value stand at this place, and those octets behind them; of one that is left out both numbers are 0
abbrev pub IsOptionAt : {X : Type 0} → Form X → Option X → List ℕ → List ℕ → Span → Type 0
IsOptionAt form (Some value) behind bytes span = IsAt (spelling form value) behind bytes span
IsOptionAt form None behind bytes span = span ≡ record { place = 0; len = 0 }

-- the octets of bits stand at this place, and those octets behind them, and so many bits are unused; of bits that are left out all numbers are 0
abbrev pub AreBitsAt : Option BitParts → List ℕ → List ℕ → Span → ℕ → Type 0
AreBitsAt (Some bits) behind bytes span unused = IsAt bits.octets behind bytes span × (unused ≡ bits.unused)
AreBitsAt None behind bytes span unused = (span ≡ record { place = 0; len = 0 }) × (unused ≡ 0)

-- ---- what stands behind the signed part, and behind its fields (RFC 5280 4.1)

abbrev pub behind_part : {P : Type 0} → CertificateInner P → List ℕ
behind_part certificate = spelling algorithm_identifier certificate.signature_algorithm ++ spelling bit_string certificate.signature

abbrev pub behind_subject_id : {P : Type 0} → CertificateInner P → List ℕ
behind_subject_id certificate = optional_octets (spelling (explicit 3 extensions)) certificate.tbs_certificate.extensions ++ behind_part certificate

abbrev pub behind_issuer_id : {P : Type 0} → CertificateInner P → List ℕ
behind_issuer_id certificate = optional_octets (spelling (implicit 2 bit_string)) certificate.tbs_certificate.subject_unique_id ++ behind_subject_id certificate

abbrev pub behind_key : {P : Type 0} → CertificateInner P → List ℕ
behind_key certificate = optional_octets (spelling (implicit 1 bit_string)) certificate.tbs_certificate.issuer_unique_id ++ behind_issuer_id certificate

abbrev pub behind_subject : {P : Type 0} → CertificateInner P → List ℕ
behind_subject certificate = spelling subject_public_key_info certificate.tbs_certificate.subject_public_key_info ++ behind_key certificate

abbrev pub behind_issuer : {P : Type 0} → CertificateInner P → List ℕ
behind_issuer certificate = spelling validity certificate.tbs_certificate.validity ++ (spelling name certificate.tbs_certificate.subject ++ behind_subject certificate)

abbrev pub behind_algorithm : {P : Type 0} → CertificateInner P → List ℕ
behind_algorithm certificate = spelling name certificate.tbs_certificate.issuer ++ behind_issuer certificate

abbrev pub behind_serial_number : {P : Type 0} → CertificateInner P → List ℕ
behind_serial_number certificate = spelling algorithm_identifier certificate.tbs_certificate.signature ++ behind_algorithm certificate

-- what the view says of a certificate in these bytes
pub record IsView {P : Type 0} (bytes : List ℕ) (certificate : CertificateInner P) (view : CertificateView) : Type 0 where
  pub version : view.version ≡ version_of certificate.tbs_certificate.version
  pub serial_number : IsAt (spelling (serial_number no_check) certificate.tbs_certificate.serial_number) (behind_serial_number certificate) bytes view.serial_number
  pub issuer : IsAt (spelling name certificate.tbs_certificate.issuer) (behind_issuer certificate) bytes view.issuer
  pub subject : IsAt (spelling name certificate.tbs_certificate.subject) (behind_subject certificate) bytes view.subject
  pub subject_public_key_info : IsAt (spelling subject_public_key_info certificate.tbs_certificate.subject_public_key_info) (behind_key certificate) bytes view.subject_public_key_info
  pub extensions : IsOptionAt extensions certificate.tbs_certificate.extensions (behind_part certificate) bytes view.extensions
  pub not_before : view.not_before ≡ unix_seconds (date_time_of certificate.tbs_certificate.validity.not_before)
  pub not_after : view.not_after ≡ unix_seconds (date_time_of certificate.tbs_certificate.validity.not_after)
  pub inner_algorithm : IsAt (spelling algorithm_identifier certificate.tbs_certificate.signature) (behind_algorithm certificate) bytes view.inner_algorithm
  pub issuer_unique_id : AreBitsAt certificate.tbs_certificate.issuer_unique_id (behind_issuer_id certificate) bytes view.issuer_unique_id view.issuer_unused_bits
  pub subject_unique_id : AreBitsAt certificate.tbs_certificate.subject_unique_id (behind_subject_id certificate) bytes view.subject_unique_id view.subject_unused_bits
