-- What a CRL says, and where its parts stand in its bytes (RFC 5280 5.1.2).
use Rattle.std.specs.Prelude.{◌≡◌, ℕ, List, ◌++◌, Option, Some, None}
use Rattle.x509_base.specs.AlgorithmIdentifier.{algorithm_identifier}
use Rattle.x509_base.specs.CivilTime.{unix_seconds}
use Rattle.x509_base.specs.Profiles.{rfc5280_serial_number}
use Rattle.x509_base.specs.Time.{date_time_of, time}
use Rattle.x509_base.specs.declared.profile.Rfc5280.{Rfc5280}
use Rattle.x509_base.specs.declared.time.Time.{Time}
use Rattle.x509_c_calls.specs.declared.crl.view.CrlView.{CrlView}
use Rattle.x509_c_calls.specs.KeySigned.{IsSigned}
use Rattle.x509_c_calls.specs.Optional.{IsNumber, IsPerhapsAt}
use Rattle.x509_c_calls.specs.Place.{IsAt}
use Rattle.x509_cert.specs.CertificateList.{tbs_cert_list}
use Rattle.x509_cert.specs.RevokedCert.{revoked_cert}
use Rattle.x509_cert.specs.declared.crl.certificate_list.CertificateList.{CertificateList}
use Rattle.x509_cert.specs.declared.crl.revoked_cert.RevokedCert.{RevokedCert}
use Rattle.x509_cert.specs.declared.certificate.version.Version.{Version}
use Rattle.x509_cert.specs.declared.certificate.version.Version.TheVariants.{V1, V2, V3}
use Rattle.x509_der.specs.declared.tag.Tag.TheVariants.{Sequence}
use Rattle.x509_der.specs.Frames.{explicit, optional_octets}
use Rattle.x509_der.specs.List.{list_of}
use Rattle.x509_der.specs.Form.{Form, spelling, universal}
use Rattle.x509_ext.specs.Extension.{extensions}
use Rattle.x509_name.specs.Names.{name}
use Rattle.x509_prim.specs.BitString.{bit_string}

-- the number of a version; one that is left out is the first (RFC 5280 5.1.2.1)
abbrev pub version_of : Option Version → ℕ
version_of None = 1
version_of (Some V1) = 1
version_of (Some V2) = 2
version_of (Some V3) = 3

abbrev pub seconds_of : Option Time → Option ℕ
seconds_of None = None
seconds_of (Some t) = Some (unix_seconds (date_time_of t))

-- SEQUENCE OF RevokedCert
abbrev pub entry_list : Form (List (RevokedCert Rfc5280))
entry_list = universal Sequence (list_of (revoked_cert rfc5280_serial_number))

-- ---- what stands behind the fields of the signed part, where those octets stand behind the CRL

abbrev pub behind_part : CertificateList Rfc5280 → List ℕ → List ℕ
behind_part list behind = spelling algorithm_identifier list.signature_algorithm ++ (spelling bit_string list.signature ++ behind)

abbrev pub behind_entries : CertificateList Rfc5280 → List ℕ → List ℕ
behind_entries list behind = optional_octets (spelling (explicit 0 extensions)) list.tbs_cert_list.crl_extensions ++ behind_part list behind

abbrev pub behind_issuer : CertificateList Rfc5280 → List ℕ → List ℕ
behind_issuer list behind =
    spelling time list.tbs_cert_list.this_update
    ++ (optional_octets (spelling time) list.tbs_cert_list.next_update ++ (optional_octets (spelling entry_list) list.tbs_cert_list.revoked_certificates ++ behind_entries list behind))

abbrev pub behind_algorithm : CertificateList Rfc5280 → List ℕ → List ℕ
behind_algorithm list behind = spelling name list.tbs_cert_list.issuer ++ behind_issuer list behind

-- what the view says of a CRL in these bytes, behind which those others stand
pub record IsCrl (bytes : List ℕ) (list : CertificateList Rfc5280) (behind : List ℕ) (view : CrlView) : Type 0 where
  pub version : view.version ≡ version_of list.tbs_cert_list.version
  pub inner_algorithm : IsAt (spelling algorithm_identifier list.tbs_cert_list.signature) (behind_algorithm list behind) bytes view.inner_algorithm
  pub issuer : IsAt (spelling name list.tbs_cert_list.issuer) (behind_issuer list behind) bytes view.issuer
  pub this_update : view.this_update ≡ unix_seconds (date_time_of list.tbs_cert_list.this_update)
  pub next_update : IsNumber (seconds_of list.tbs_cert_list.next_update) view.has_next_update view.next_update
  pub entries : IsPerhapsAt (spelling entry_list) list.tbs_cert_list.revoked_certificates (behind_entries list behind) bytes view.entries
  pub extensions : IsPerhapsAt (spelling extensions) list.tbs_cert_list.crl_extensions (behind_part list behind) bytes view.extensions
  pub signature : IsSigned bytes (spelling (tbs_cert_list rfc5280_serial_number) list.tbs_cert_list) list.signature_algorithm list.signature behind view.signature
