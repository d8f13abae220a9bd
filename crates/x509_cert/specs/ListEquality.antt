-- Equality of CRLs, of their entries and signed parts, and of requests is exact.
use Rattle.std.specs.Cmp.Lexicographic.{pointwise}
use Rattle.std.specs.Option.{option_eq}
use Rattle.std.specs.Prelude.{Bool, bytes_eq, refl, ◌&&◌}
use Rattle.x509_base.specs.Equality.{exact_algorithm_identifier, exact_subject_public_key_info}
use Rattle.x509_base.specs.contracts.algorithm_identifier.AlgorithmIdentifierPartialEq.TheImpl as algorithm_eq
use Rattle.x509_base.specs.contracts.subject_public_key_info.SubjectPublicKeyInfoPartialEq.TheImpl as key_eq
use Rattle.x509_base.specs.TimeEquality.{exact_time}
use Rattle.x509_base.specs.contracts.time.TimePartialEq.TheImpl as time_eq
use Rattle.x509_cert.specs.contracts.request.version.VersionPartialEq.TheImpl as request_version_eq
use Rattle.x509_cert.specs.declared.crl.certificate_list.CertificateList.{CertificateList}
use Rattle.x509_cert.specs.declared.crl.revoked_cert.RevokedCert.{RevokedCert}
use Rattle.x509_cert.specs.declared.crl.tbs_cert_list.TbsCertList.{TbsCertList}
use Rattle.x509_cert.specs.declared.request.attributes.ChallengePassword.{ChallengePassword}
use Rattle.x509_cert.specs.declared.request.cert_req.CertReq.{CertReq}
use Rattle.x509_cert.specs.declared.request.cert_req.CertReqInfo.{CertReqInfo}
use Rattle.x509_cert.specs.declared.request.extension_req.ExtensionReq.{ExtensionReq}
use Rattle.x509_cert.specs.declared.request.version.Version.TheVariants.{V1}
use Rattle.x509_cert.specs.CertificateEquality.{exact_version}
use Rattle.x509_cert.specs.contracts.certificate.version.VersionPartialEq.TheImpl as version_eq
use Rattle.x509_der.specs.Exact.{IsExact, exact_octets, exact_list, exact_option, exact_both, exact_by}
use Rattle.x509_ext.specs.ExtensionEquality.{exact_extension}
use Rattle.x509_ext.specs.contracts.extension.ExtensionPartialEq.TheImpl as extension_eq
use Rattle.x509_ext.specs.GeneralNameEquality.{exact_directory_string}
use Rattle.x509_name.specs.Names.{rdn_sequence_eq, rdn_sequence_decides}
use Rattle.x509_name.specs.Attribute.{attribute_eq, attribute_decides}
use Rattle.x509_name.specs.contracts.name.directory_string.DirectoryStringPartialEq.TheImpl as directory_string_eq
use Rattle.x509_prim.specs.Equality.{exact_bit_string}
use Rattle.x509_prim.specs.contracts.bit_string.BitStringPartialEq.TheImpl as bit_string_eq

-- ---- CRLs

-- what `==` asks of entries
abbrev pub revoked_cert_eq : {P : Type 0} → RevokedCert P → RevokedCert P → Bool
revoked_cert_eq a b =
    bytes_eq a.serial_number b.serial_number && (
    time_eq.ghosts.eq a.revocation_date b.revocation_date &&
    option_eq (pointwise extension_eq.ghosts.eq) a.crl_entry_extensions b.crl_entry_extensions)

pub exact_revoked_cert : {P : Type 0} → IsExact (revoked_cert_eq {P = P})
exact_revoked_cert {P} =
    exact_by (λ (r : RevokedCert P). (r.serial_number, (r.revocation_date, r.crl_entry_extensions)))
    (λ (serial_number, (revocation_date, crl_entry_extensions)). record { serial_number = serial_number; revocation_date = revocation_date; crl_entry_extensions = crl_entry_extensions })
    (λ r. refl) (exact_both exact_octets (exact_both exact_time (exact_option (exact_list exact_extension))))

-- what `==` asks of signed parts
abbrev pub tbs_cert_list_eq : {P : Type 0} → TbsCertList P → TbsCertList P → Bool
tbs_cert_list_eq a b =
    option_eq version_eq.ghosts.eq a.version b.version && (
    algorithm_eq.ghosts.eq a.signature b.signature && (
    rdn_sequence_eq a.issuer b.issuer && (
    time_eq.ghosts.eq a.this_update b.this_update && (
    option_eq time_eq.ghosts.eq a.next_update b.next_update && (
    option_eq (pointwise revoked_cert_eq) a.revoked_certificates b.revoked_certificates &&
    option_eq (pointwise extension_eq.ghosts.eq) a.crl_extensions b.crl_extensions)))))

pub exact_tbs_cert_list : {P : Type 0} → IsExact (tbs_cert_list_eq {P = P})
exact_tbs_cert_list {P} =
    exact_by (λ (l : TbsCertList P). (l.version, (l.signature, (l.issuer, (l.this_update, (l.next_update, (l.revoked_certificates, l.crl_extensions)))))))
    (λ (version, (signature, (issuer, (this_update, (next_update, (revoked_certificates, crl_extensions)))))). record { version = version; signature = signature; issuer = issuer; this_update = this_update; next_update = next_update; revoked_certificates = revoked_certificates; crl_extensions = crl_extensions })
    (λ l. refl) (exact_both (exact_option exact_version) (exact_both exact_algorithm_identifier (exact_both rdn_sequence_decides (exact_both exact_time (exact_both (exact_option exact_time) (exact_both (exact_option (exact_list exact_revoked_cert)) (exact_option (exact_list exact_extension))))))))

-- what `==` asks of CRLs
abbrev pub certificate_list_eq : {P : Type 0} → CertificateList P → CertificateList P → Bool
certificate_list_eq a b = tbs_cert_list_eq a.tbs_cert_list b.tbs_cert_list && (algorithm_eq.ghosts.eq a.signature_algorithm b.signature_algorithm && bit_string_eq.ghosts.eq a.signature b.signature)

pub exact_certificate_list : {P : Type 0} → IsExact (certificate_list_eq {P = P})
exact_certificate_list {P} =
    exact_by (λ (c : CertificateList P). (c.tbs_cert_list, (c.signature_algorithm, c.signature)))
    (λ (tbs_cert_list, (signature_algorithm, signature)). record { tbs_cert_list = tbs_cert_list; signature_algorithm = signature_algorithm; signature = signature })
    (λ c. refl) (exact_both exact_tbs_cert_list (exact_both exact_algorithm_identifier exact_bit_string))

-- ---- requests

pub exact_request_version : IsExact request_version_eq.ghosts.eq
exact_request_version V1 V1 = (λ e. refl, λ e. refl)

-- what `==` asks of what is signed
abbrev pub cert_req_info_eq : CertReqInfo → CertReqInfo → Bool
cert_req_info_eq a b =
    request_version_eq.ghosts.eq a.version b.version && (
    rdn_sequence_eq a.subject b.subject && (
    key_eq.ghosts.eq a.public_key b.public_key &&
    pointwise attribute_eq a.attributes b.attributes))

pub exact_cert_req_info : IsExact cert_req_info_eq
exact_cert_req_info =
    exact_by (λ (i : CertReqInfo). (i.version, (i.subject, (i.public_key, i.attributes))))
    (λ (version, (subject, (public_key, attributes))). record { version = version; subject = subject; public_key = public_key; attributes = attributes })
    (λ i. refl) (exact_both exact_request_version (exact_both rdn_sequence_decides (exact_both exact_subject_public_key_info (exact_list attribute_decides))))

-- what `==` asks of requests
abbrev pub cert_req_eq : CertReq → CertReq → Bool
cert_req_eq a b = cert_req_info_eq a.info b.info && (algorithm_eq.ghosts.eq a.algorithm b.algorithm && bit_string_eq.ghosts.eq a.signature b.signature)

pub exact_cert_req : IsExact cert_req_eq
exact_cert_req =
    exact_by (λ (r : CertReq). (r.info, (r.algorithm, r.signature)))
    (λ (info, (algorithm, signature)). record { info = info; algorithm = algorithm; signature = signature })
    (λ r. refl) (exact_both exact_cert_req_info (exact_both exact_algorithm_identifier exact_bit_string))

pub exact_extension_req : IsExact (λ (a b : ExtensionReq). pointwise extension_eq.ghosts.eq a.0 b.0)
exact_extension_req = exact_by (λ (r : ExtensionReq). r.0) (λ extensions. record { 0 = extensions }) (λ r. refl) (exact_list exact_extension)

pub exact_challenge_password : IsExact (λ (a b : ChallengePassword). directory_string_eq.ghosts.eq a.0 b.0)
exact_challenge_password = exact_by (λ (p : ChallengePassword). p.0) (λ string. record { 0 = string }) (λ p. refl) exact_directory_string
