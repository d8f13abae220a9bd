-- TbsCertList: version: Version?, signature: AlgorithmIdentifier, issuer: Name, this_update: Time, next_update: Time?,
-- revoked_certificates: (list RevokedCert)?, crl_extensions: {0}Extensions? (RFC 5280 5.1)
-- CertificateList: tbs_cert_list: TbsCertList, signature_algorithm: AlgorithmIdentifier, signature: BIT STRING (RFC 5280 5.1)
use Rattle.std.specs.Prelude.{ℕ, List, Option, Result, refl}
use Rattle.x509_base.specs.AlgorithmIdentifier.{algorithm_identifier, algorithm_identifier_lawful, algorithm_identifier_order, algorithm_identifier_ordered}
use Rattle.x509_base.specs.declared.algorithm_identifier.AlgorithmIdentifier.{AlgorithmIdentifier}
use Rattle.x509_base.specs.Checked.{CheckRefuses}
use Rattle.x509_base.specs.Time.{time, time_lawful}
use Rattle.x509_base.specs.declared.time.Time.{Time}
use Rattle.x509_cert.specs.Version.{version, version_lawful, version_names}
use Rattle.x509_cert.specs.declared.certificate.version.Version.{Version}
use Rattle.x509_cert.specs.RevokedCert.{revoked_cert, revoked_cert_lawful, revoked_cert_order, revoked_cert_ordered}
use Rattle.x509_cert.specs.declared.crl.certificate_list.CertificateList.{CertificateList}
use Rattle.x509_cert.specs.declared.crl.revoked_cert.RevokedCert.{RevokedCert}
use Rattle.x509_cert.specs.declared.crl.tbs_cert_list.TbsCertList.{TbsCertList}
use Rattle.x509_der.specs.declared.error.ErrorKind.{ErrorKind}
use Rattle.x509_der.specs.declared.tag.Tag.TheVariants.{Sequence, Integer}
use Rattle.x509_der.specs.Frames.{explicit, Part, required, optional, ◌⊗◌, fields}
use Rattle.x509_der.specs.List.{list_of}
use Rattle.x509_der.specs.PartRules.{part_rules}
use Rattle.x509_der.specs.Form.{Form, IsForm, Contents, IsContents, universal}
use Rattle.x509_der.specs.FormLaws.{universal_lawful}
use Rattle.x509_ext.specs.Extension.{extensions, extensions_lawful, extensions_order, extensions_ordered}
use Rattle.x509_ext.specs.declared.extension.Extension.{Extension}
use Rattle.x509_name.specs.declared.attr.type_and_value.AttributeTypeAndValue.{AttributeTypeAndValue}
use Rattle.x509_name.specs.Names.{name, rdn_sequence_lawful, rdn_sequence_order, rdn_sequence_ordered}
use Rattle.x509_prim.specs.BitString.{BitParts, bit_string}
use Rattle.x509_prim.specs.BitStringLaws.{bit_string_lawful, bit_string_ordered}
use Rattle.x509_base.specs.Profiles.{rfc5280_serial_number}
use Rattle.x509_base.specs.declared.profile.Rfc5280.{Rfc5280}
use Rattle.x509_der.specs.Writing.{plain, writes}
use Rattle.x509_der.specs.Order.{Order, IsOrder, der_order}
use Rattle.x509_der.specs.Ordered.{by_members, by_bytes}
use Rattle.x509_der.specs.PartOrder.{PartOrder, by_parts, by_required, by_optional, ◌⊕◌, plain_parts_ordered}
use Rattle.x509_der.specs.OrderRules.{order_rules}
use Rattle.x509_base.specs.TimeOrder.{time_begins, time_order, time_ordered}
use Rattle.x509_prim.specs.NamesLaws.{named_order, named_ordered}

-- ---- what is signed

abbrev pub Front : Type 0
Front = Option Version × (AlgorithmIdentifier × (List (List AttributeTypeAndValue) × Time))

abbrev pub Behind : Type 0 → Type 0
Behind P = Option Time × (Option (List (RevokedCert P)) × Option (List Extension))

unfoldable pub tbs_cert_list_fields : {P : Type 0} → (List ℕ → Result Unit ErrorKind) → Part (Front × Behind P)
tbs_cert_list_fields check =
    (optional version ⊗ (required algorithm_identifier ⊗ (required name ⊗ required time)))
    ⊗ (optional time ⊗ (optional (universal Sequence (list_of (revoked_cert check))) ⊗ optional (explicit 0 extensions)))

abbrev pub tbs_cert_list_contents : {P : Type 0} → (List ℕ → Result Unit ErrorKind) → Contents (TbsCertList P)
tbs_cert_list_contents check = fields
    (λ l. ((l.version, (l.signature, (l.issuer, l.this_update))), (l.next_update, (l.revoked_certificates, l.crl_extensions))))
    (λ ((version, (signature, (issuer, this_update))), (next_update, (revoked_certificates, crl_extensions))). record { version = version; signature = signature; issuer = issuer; this_update = this_update; next_update = next_update; revoked_certificates = revoked_certificates; crl_extensions = crl_extensions })
    (tbs_cert_list_fields check)

abbrev pub tbs_cert_list : {P : Type 0} → (List ℕ → Result Unit ErrorKind) → Form (TbsCertList P)
tbs_cert_list check = universal Sequence (tbs_cert_list_contents check)

pub tbs_cert_list_contents_lawful : {P : Type 0} (check : List ℕ → Result Unit ErrorKind) → IsContents (CheckRefuses check) (tbs_cert_list_contents {P = P} check)
unfolding tbs_cert_list_fields
tbs_cert_list_contents_lawful check = search (part_rules, version_lawful, algorithm_identifier_lawful, rdn_sequence_lawful, time_lawful, revoked_cert_lawful, extensions_lawful) depth 20

pub tbs_cert_list_lawful : {P : Type 0} (check : List ℕ → Result Unit ErrorKind) → IsForm (CheckRefuses check) (tbs_cert_list {P = P} check)
tbs_cert_list_lawful check = universal_lawful Sequence (tbs_cert_list_contents check) (tbs_cert_list_contents_lawful check)

-- ---- the list

unfoldable pub certificate_list_fields : {P : Type 0} → (List ℕ → Result Unit ErrorKind) → Part (TbsCertList P × (AlgorithmIdentifier × BitParts))
certificate_list_fields check = required (tbs_cert_list check) ⊗ (required algorithm_identifier ⊗ required bit_string)

abbrev pub certificate_list_contents : {P : Type 0} → (List ℕ → Result Unit ErrorKind) → Contents (CertificateList P)
certificate_list_contents check = fields (λ c. (c.tbs_cert_list, (c.signature_algorithm, c.signature))) (λ (tbs_cert_list, (signature_algorithm, signature)). record { tbs_cert_list = tbs_cert_list; signature_algorithm = signature_algorithm; signature = signature }) (certificate_list_fields check)

abbrev pub certificate_list : {P : Type 0} → (List ℕ → Result Unit ErrorKind) → Form (CertificateList P)
certificate_list check = universal Sequence (certificate_list_contents check)

pub certificate_list_contents_lawful : {P : Type 0} (check : List ℕ → Result Unit ErrorKind) → IsContents (CheckRefuses check) (certificate_list_contents {P = P} check)
unfolding certificate_list_fields
certificate_list_contents_lawful check = search (part_rules, tbs_cert_list_lawful, algorithm_identifier_lawful, bit_string_lawful) depth 20

pub certificate_list_lawful : {P : Type 0} (check : List ℕ → Result Unit ErrorKind) → IsForm (CheckRefuses check) (certificate_list {P = P} check)
certificate_list_lawful check = universal_lawful Sequence (certificate_list_contents check) (certificate_list_contents_lawful check)

-- ---- under Rfc5280

abbrev pub rfc5280_certificate_list : Form (CertificateList Rfc5280)
rfc5280_certificate_list = certificate_list rfc5280_serial_number

-- ---- the byte order

abbrev pub tbs_cert_list_cmp : {P : Type 0} → (List ℕ → Result Unit ErrorKind) → PartOrder (Front × Behind P)
tbs_cert_list_cmp check =
    (by_optional version plain (named_order Integer version_names) ⊕ (by_required algorithm_identifier plain algorithm_identifier_order
    ⊕ (by_required name plain rdn_sequence_order ⊕ by_required time plain time_order))) ⊕ (by_optional time plain time_order
    ⊕ (by_optional (universal Sequence (list_of (revoked_cert check))) plain (by_members (der_order (revoked_cert check) (writes plain) (revoked_cert_order check))) ⊕ by_optional (explicit 0 extensions) plain (der_order extensions (writes plain) extensions_order)))

abbrev pub tbs_cert_list_order : {P : Type 0} → (List ℕ → Result Unit ErrorKind) → Order (TbsCertList P)
tbs_cert_list_order check = by_parts
    (λ l. ((l.version, (l.signature, (l.issuer, l.this_update))), (l.next_update, (l.revoked_certificates, l.crl_extensions))))
    (tbs_cert_list_cmp check)

pub tbs_cert_list_ordered : {P : Type 0} (check : List ℕ → Result Unit ErrorKind)
    → IsOrder (tbs_cert_list {P = P} check) (writes plain) (tbs_cert_list_order check)
unfolding tbs_cert_list_fields
tbs_cert_list_ordered check = plain_parts_ordered Sequence _ _ (tbs_cert_list_cmp check) (λ v. refl) refl
    (search (order_rules, named_ordered, algorithm_identifier_ordered, rdn_sequence_ordered, time_begins, time_ordered, revoked_cert_ordered, extensions_ordered) depth 20)

-- ---- the byte order

abbrev pub certificate_list_cmp : {P : Type 0} → (List ℕ → Result Unit ErrorKind) → PartOrder (TbsCertList P × (AlgorithmIdentifier × BitParts))
certificate_list_cmp check =
    by_required (tbs_cert_list check) plain (tbs_cert_list_order check) ⊕ (by_required algorithm_identifier plain algorithm_identifier_order
    ⊕ by_required bit_string plain (by_bytes bit_string))

abbrev pub certificate_list_order : {P : Type 0} → (List ℕ → Result Unit ErrorKind) → Order (CertificateList P)
certificate_list_order check = by_parts
    (λ c. (c.tbs_cert_list, (c.signature_algorithm, c.signature)))
    (certificate_list_cmp check)

pub certificate_list_ordered : {P : Type 0} (check : List ℕ → Result Unit ErrorKind)
    → IsOrder (certificate_list {P = P} check) (writes plain) (certificate_list_order check)
unfolding certificate_list_fields
certificate_list_ordered check = plain_parts_ordered Sequence _ _ (certificate_list_cmp check) (λ v. refl) refl
    (search (order_rules, tbs_cert_list_ordered, algorithm_identifier_ordered, bit_string_ordered) depth 20)
