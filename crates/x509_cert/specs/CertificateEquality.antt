-- Equality of certificates and of their signed parts is exact, under every profile.
use Rattle.std.specs.Cmp.Lexicographic.{pointwise}
use Rattle.std.specs.Option.{option_eq}
use Rattle.std.specs.Prelude.{true, Bool, bytes_eq, refl, ◌&&◌}
use Rattle.x509_base.specs.Equality.{exact_algorithm_identifier, exact_subject_public_key_info}
use Rattle.x509_base.specs.contracts.algorithm_identifier.AlgorithmIdentifierPartialEq.TheImpl as algorithm_eq
use Rattle.x509_base.specs.contracts.subject_public_key_info.SubjectPublicKeyInfoPartialEq.TheImpl as key_eq
use Rattle.x509_base.specs.TimeEquality.{exact_validity}
use Rattle.x509_base.specs.contracts.time.TimePartialEq.TheImpl as time_eq
use Rattle.x509_base.specs.declared.validity.Validity.{Validity}
use Rattle.x509_ext.specs.ExtensionEquality.{exact_extension}
use Rattle.x509_name.specs.Names.{rdn_sequence_eq, rdn_sequence_decides}
use Rattle.x509_der.specs.Exact.{IsExact, exact_octets, exact_list, exact_option, exact_both, exact_by, exact_bare}
use Rattle.x509_ext.specs.contracts.extension.ExtensionPartialEq.TheImpl as extension_eq
use Rattle.x509_prim.specs.Equality.{exact_bit_string}
use Rattle.x509_prim.specs.contracts.bit_string.BitStringPartialEq.TheImpl as bit_string_eq
use Rattle.x509_cert.specs.contracts.certificate.version.Version.{enum as versions}
use Rattle.x509_cert.specs.contracts.certificate.version.VersionPartialEq.TheImpl as version_eq
use Rattle.x509_cert.specs.declared.certificate.certificate.CertificateInner.{CertificateInner}
use Rattle.x509_cert.specs.declared.certificate.tbs_certificate.TbsCertificateInner.{TbsCertificateInner}

pub exact_version : IsExact version_eq.ghosts.eq
exact_version = exact_bare versions tt

-- the last test is that of the profiles, which have no content
abbrev validity_eq : {P : Type 0} → Validity P → Validity P → Bool
validity_eq a b = time_eq.ghosts.eq a.not_before b.not_before && (time_eq.ghosts.eq a.not_after b.not_after && true)

-- what `==` asks of signed parts
abbrev pub tbs_certificate_eq : {P : Type 0} → TbsCertificateInner P → TbsCertificateInner P → Bool
tbs_certificate_eq a b =
    version_eq.ghosts.eq a.version b.version && (
    bytes_eq a.serial_number b.serial_number && (
    algorithm_eq.ghosts.eq a.signature b.signature && (
    rdn_sequence_eq a.issuer b.issuer && (
    validity_eq a.validity b.validity && (
    rdn_sequence_eq a.subject b.subject && (
    key_eq.ghosts.eq a.subject_public_key_info b.subject_public_key_info && (
    option_eq bit_string_eq.ghosts.eq a.issuer_unique_id b.issuer_unique_id && (
    option_eq bit_string_eq.ghosts.eq a.subject_unique_id b.subject_unique_id &&
    option_eq (pointwise extension_eq.ghosts.eq) a.extensions b.extensions))))))))

pub exact_tbs_certificate : {P : Type 0} → IsExact (tbs_certificate_eq {P = P})
exact_tbs_certificate {P} =
    exact_by (λ (t : TbsCertificateInner P). (t.version, (t.serial_number, (t.signature, (t.issuer, (t.validity, (t.subject, (t.subject_public_key_info, (t.issuer_unique_id, (t.subject_unique_id, t.extensions))))))))))
    (λ (version, (serial_number, (signature, (issuer, (validity, (subject, (subject_public_key_info, (issuer_unique_id, (subject_unique_id, extensions))))))))). record { version = version; serial_number = serial_number; signature = signature; issuer = issuer; validity = validity; subject = subject; subject_public_key_info = subject_public_key_info; issuer_unique_id = issuer_unique_id; subject_unique_id = subject_unique_id; extensions = extensions })
    (λ t. refl) (exact_both exact_version (exact_both exact_octets (exact_both exact_algorithm_identifier (exact_both rdn_sequence_decides (exact_both exact_validity (exact_both rdn_sequence_decides (exact_both exact_subject_public_key_info (exact_both (exact_option exact_bit_string) (exact_both (exact_option exact_bit_string) (exact_option (exact_list exact_extension)))))))))))

-- what `==` asks of certificates
abbrev pub certificate_eq : {P : Type 0} → CertificateInner P → CertificateInner P → Bool
certificate_eq a b = tbs_certificate_eq a.tbs_certificate b.tbs_certificate && (algorithm_eq.ghosts.eq a.signature_algorithm b.signature_algorithm && bit_string_eq.ghosts.eq a.signature b.signature)

pub exact_certificate : {P : Type 0} → IsExact (certificate_eq {P = P})
exact_certificate {P} =
    exact_by (λ (c : CertificateInner P). (c.tbs_certificate, (c.signature_algorithm, c.signature)))
    (λ (tbs_certificate, (signature_algorithm, signature)). record { tbs_certificate = tbs_certificate; signature_algorithm = signature_algorithm; signature = signature })
    (λ c. refl) (exact_both exact_tbs_certificate (exact_both exact_algorithm_identifier exact_bit_string))
