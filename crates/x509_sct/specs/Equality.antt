-- Equality of signed certificate timestamps, and of what stands in them, is exact.
use Rattle.std.specs.Prelude.{refl}
use Rattle.x509_der.specs.Exact.{IsExact, exact_number, exact_octets, exact_unit, exact_both, exact_last, exact_by, exact_cases, exact_bare}
use Rattle.x509_der.specs.TagEquality.{exact_error}
use Rattle.x509_sct.specs.contracts.tls.error.TlsError.{enum as tls_errors}
use Rattle.x509_sct.specs.contracts.tls.error.TlsErrorPartialEq.TheImpl as tls_error_eq
use Rattle.x509_sct.specs.contracts.entry.SignatureType.{enum as signature_types}
use Rattle.x509_sct.specs.contracts.entry.SignatureTypePartialEq.TheImpl as signature_type_eq
use Rattle.x509_sct.specs.contracts.error.Error.{enum as errors}
use Rattle.x509_sct.specs.contracts.error.ErrorPartialEq.TheImpl as timestamp_error_eq
use Rattle.x509_sct.specs.contracts.list.SignedCertificateTimestampListPartialEq.TheImpl as signed_certificate_timestamp_list_eq
use Rattle.x509_sct.specs.contracts.serialized.SerializedSctPartialEq.TheImpl as serialized_sct_eq
use Rattle.x509_sct.specs.contracts.signed.DigitallySignedPartialEq.TheImpl as digitally_signed_eq
use Rattle.x509_sct.specs.contracts.signed.HashAlgorithm.{enum as hashes}
use Rattle.x509_sct.specs.contracts.signed.HashAlgorithmPartialEq.TheImpl as hash_algorithm_eq
use Rattle.x509_sct.specs.contracts.signed.SignatureAlgorithm.{enum as signatures}
use Rattle.x509_sct.specs.contracts.signed.SignatureAlgorithmPartialEq.TheImpl as signature_algorithm_eq
use Rattle.x509_sct.specs.contracts.signed.SignatureAndHashAlgorithmPartialEq.TheImpl as signature_and_hash_algorithm_eq
use Rattle.x509_sct.specs.contracts.timestamp.LogIdPartialEq.TheImpl as log_id_eq
use Rattle.x509_sct.specs.contracts.timestamp.SignedCertificateTimestampPartialEq.TheImpl as signed_certificate_timestamp_eq
use Rattle.x509_sct.specs.contracts.timestamp.VersionPartialEq.TheImpl as version_eq
use Rattle.x509_sct.specs.declared.list.SignedCertificateTimestampList.{SignedCertificateTimestampList}
use Rattle.x509_sct.specs.declared.serialized.SerializedSct.{SerializedSct}
use Rattle.x509_sct.specs.declared.signed.DigitallySigned.{DigitallySigned}
use Rattle.x509_sct.specs.declared.signed.SignatureAndHashAlgorithm.{SignatureAndHashAlgorithm}
use Rattle.x509_sct.specs.declared.timestamp.LogId.{LogId}
use Rattle.x509_sct.specs.declared.timestamp.SignedCertificateTimestamp.{SignedCertificateTimestamp}
use Rattle.x509_sct.specs.declared.timestamp.Version.TheVariants.{V1}

pub exact_hash_algorithm : IsExact hash_algorithm_eq.ghosts.eq
exact_hash_algorithm = exact_bare hashes tt

pub exact_signature_algorithm : IsExact signature_algorithm_eq.ghosts.eq
exact_signature_algorithm = exact_bare signatures tt

pub exact_signature_and_hash_algorithm : IsExact signature_and_hash_algorithm_eq.ghosts.eq
exact_signature_and_hash_algorithm =
    exact_by (λ (s : SignatureAndHashAlgorithm). (s.hash, s.signature))
    (λ (hash, signature). record { hash = hash; signature = signature })
    (λ s. refl) (exact_both exact_hash_algorithm exact_signature_algorithm)

pub exact_digitally_signed : IsExact digitally_signed_eq.ghosts.eq
exact_digitally_signed =
    exact_by (λ (d : DigitallySigned). (d.algorithm, d.signature))
    (λ (algorithm, signature). record { algorithm = algorithm; signature = signature })
    (λ d. refl) (exact_both exact_signature_and_hash_algorithm exact_octets)

pub exact_version : IsExact version_eq.ghosts.eq
exact_version V1 V1 = (λ e. refl, λ e. refl)

pub exact_signature_type : IsExact signature_type_eq.ghosts.eq
exact_signature_type = exact_bare signature_types tt

pub exact_log_id : IsExact log_id_eq.ghosts.eq
exact_log_id = exact_by (λ (l : LogId). l.key_id) (λ key_id. record { key_id = key_id }) (λ l. refl) exact_octets

pub exact_signed_certificate_timestamp : IsExact signed_certificate_timestamp_eq.ghosts.eq
exact_signed_certificate_timestamp =
    exact_by (λ (s : SignedCertificateTimestamp). (s.version, (s.log_id, (s.timestamp, (s.extensions, s.signature)))))
    (λ (version, (log_id, (timestamp, (extensions, signature)))). record { version = version; log_id = log_id; timestamp = timestamp; extensions = extensions; signature = signature })
    (λ s. refl) (exact_both exact_version (exact_both exact_log_id (exact_both exact_number (exact_both exact_octets exact_digitally_signed))))

pub exact_serialized_sct : IsExact serialized_sct_eq.ghosts.eq
exact_serialized_sct = exact_by (λ (s : SerializedSct). s.octets) (λ octets. record { octets = octets }) (λ s. refl) exact_octets

pub exact_signed_certificate_timestamp_list : IsExact signed_certificate_timestamp_list_eq.ghosts.eq
exact_signed_certificate_timestamp_list = exact_by (λ (s : SignedCertificateTimestampList). s.0) (λ x. record { 0 = x }) (λ s. refl) exact_octets

exact_tls_error : IsExact tls_error_eq.ghosts.eq
exact_tls_error = exact_cases tls_errors _ (exact_unit, (exact_last exact_number, (exact_unit, (exact_unit, (exact_unit, tt)))))

pub exact_timestamp_error : IsExact timestamp_error_eq.ghosts.eq
exact_timestamp_error = exact_cases errors _ (exact_last exact_error, (exact_last exact_tls_error, tt))
