-- TbsCertificateInner: version: {0}Version=V1, serial_number: SerialNumber, signature: AlgorithmIdentifier, issuer: Name,
-- validity: Validity, subject: Name, subject_public_key_info: SubjectPublicKeyInfo, issuer_unique_id: [1]BIT STRING?,
-- subject_unique_id: [2]BIT STRING?, extensions: {3}Extensions? (RFC 5280 4.1.2)
use Rattle.std.specs.Prelude.{ℕ, List, Option, Result, refl, ◌≡◌}
use Rattle.x509_der.specs.declared.error.ErrorKind.{ErrorKind}
use Rattle.x509_der.specs.declared.tag.Tag.TheVariants.{Sequence, Integer}
use Rattle.x509_der.specs.Form.{Form, IsForm, Contents, IsContents, universal}
use Rattle.x509_der.specs.FormLaws.{universal_lawful}
use Rattle.x509_der.specs.StableLaws.{with_field_stable}
use Rattle.x509_der.specs.Writing.{Writing, with_field, IsStable, plain, writes, respelling}
use Rattle.x509_der.specs.Frames.{implicit, explicit, Part, required, optional, defaulted, ◌⊗◌, fields, fields_good}
use Rattle.x509_der.specs.PartRules.{part_rules}
use Rattle.x509_prim.specs.BitString.{BitParts, bit_string}
use Rattle.x509_prim.specs.BitStringLaws.{bit_string_lawful, bit_string_ordered}
use Rattle.x509_base.specs.Validity.{validity, validity_lawful, validity_order, validity_ordered}
use Rattle.x509_base.specs.declared.validity.Validity.{Validity}
use Rattle.x509_base.specs.Checked.{CheckRefuses}
use Rattle.x509_base.specs.Serial.{serial_number, serial_number_lawful}
use Rattle.x509_base.specs.AlgorithmIdentifier.{algorithm_identifier, algorithm_identifier_lawful, algorithm_identifier_order, algorithm_identifier_ordered}
use Rattle.x509_base.specs.SubjectPublicKeyInfo.{subject_public_key_info, subject_public_key_info_lawful, subject_public_key_info_order, subject_public_key_info_ordered}
use Rattle.x509_base.specs.declared.algorithm_identifier.AlgorithmIdentifier.{AlgorithmIdentifier}
use Rattle.x509_base.specs.declared.subject_public_key_info.SubjectPublicKeyInfo.{SubjectPublicKeyInfo}
use Rattle.x509_name.specs.declared.attr.type_and_value.AttributeTypeAndValue.{AttributeTypeAndValue}
use Rattle.x509_name.specs.Names.{name, rdn_sequence_lawful, rdn_sequence_order, rdn_sequence_ordered}
use Rattle.x509_ext.specs.Extension.{extensions, extensions_lawful, extensions_order, extensions_ordered}
use Rattle.x509_ext.specs.declared.extension.Extension.{Extension}
use Rattle.x509_cert.specs.Version.{version, version_lawful, version_default, version_default_lawful, version_names}
use Rattle.x509_cert.specs.declared.certificate.version.Version.{Version}
use Rattle.x509_cert.specs.declared.certificate.tbs_certificate.TbsCertificateInner.{TbsCertificateInner}
use Rattle.x509_base.specs.Profiles.{rfc5280_serial_number}
use Rattle.x509_base.specs.declared.profile.Rfc5280.{Rfc5280}
use Rattle.x509_der.specs.Order.{Order, IsOrder, der_order}
use Rattle.x509_der.specs.Ordered.{by_bytes}
use Rattle.x509_der.specs.PartOrder.{PartOrder, by_parts, by_required, by_optional, by_default, ◌⊕◌, parts_ordered}
use Rattle.x509_der.specs.OrderRules.{order_rules}
use Rattle.x509_prim.specs.NamesLaws.{named_order, named_ordered}
use Rattle.x509_base.specs.SerialOrder.{serial_ordered}

-- ---- the grammar

abbrev pub NameList : Type 0
NameList = List (List AttributeTypeAndValue)

abbrev pub Front : Type 0 → Type 0
Front P = Version × (List ℕ × (AlgorithmIdentifier × (NameList × Validity P)))

abbrev pub Behind : Type 0
Behind = NameList × (SubjectPublicKeyInfo × (Option BitParts × (Option BitParts × Option (List Extension))))

-- the fields up to the validity, and those behind it
abbrev pub tbs_certificate_front : {P : Type 0} → (List ℕ → Result Unit ErrorKind) → Part (Front P)
tbs_certificate_front check =
    defaulted version_default (explicit 0 version) ⊗ (required (serial_number check) ⊗ (required algorithm_identifier ⊗ (required name ⊗ required validity)))

abbrev pub tbs_certificate_behind : Part Behind
tbs_certificate_behind =
    required name ⊗ (required subject_public_key_info ⊗ (optional (implicit 1 bit_string) ⊗ (optional (implicit 2 bit_string) ⊗ optional (explicit 3 extensions))))

unfoldable pub tbs_certificate_fields : {P : Type 0} → (List ℕ → Result Unit ErrorKind) → Part (Front P × Behind)
tbs_certificate_fields check = tbs_certificate_front check ⊗ tbs_certificate_behind

-- the check is that of the profile on the content octets of the serial number
abbrev pub tbs_certificate_contents : {P : Type 0} → (List ℕ → Result Unit ErrorKind) → Contents (TbsCertificateInner P)
tbs_certificate_contents check = fields
    (λ t. ((t.version, (t.serial_number, (t.signature, (t.issuer, t.validity)))), (t.subject, (t.subject_public_key_info, (t.issuer_unique_id, (t.subject_unique_id, t.extensions))))))
    (λ ((version, (serial_number, (signature, (issuer, validity)))), (subject, (subject_public_key_info, (issuer_unique_id, (subject_unique_id, extensions))))). record { version = version; serial_number = serial_number; signature = signature; issuer = issuer; validity = validity; subject = subject; subject_public_key_info = subject_public_key_info; issuer_unique_id = issuer_unique_id; subject_unique_id = subject_unique_id; extensions = extensions })
    (tbs_certificate_fields check)

abbrev pub tbs_certificate : {P : Type 0} → (List ℕ → Result Unit ErrorKind) → Form (TbsCertificateInner P)
tbs_certificate check = universal Sequence (tbs_certificate_contents check)

pub tbs_certificate_contents_lawful : {P : Type 0} (check : List ℕ → Result Unit ErrorKind) → IsContents (CheckRefuses check) (tbs_certificate_contents {P = P} check)
unfolding tbs_certificate_fields
tbs_certificate_contents_lawful check = search (part_rules, version_lawful, version_default_lawful, serial_number_lawful, algorithm_identifier_lawful, rdn_sequence_lawful, validity_lawful, subject_public_key_info_lawful, bit_string_lawful, extensions_lawful) depth 20

pub tbs_certificate_lawful : {P : Type 0} (check : List ℕ → Result Unit ErrorKind) → IsForm (CheckRefuses check) (tbs_certificate {P = P} check)
tbs_certificate_lawful check = universal_lawful Sequence (tbs_certificate_contents check) (tbs_certificate_contents_lawful check)

-- ---- what is written

-- the validity as its profile spells it, the rest as it is
abbrev pub tbs_certificate_writing : {P : Type 0} → Writing (Validity P) → Writing (TbsCertificateInner P)
tbs_certificate_writing writing = with_field (λ t. t.validity) (λ t v. record t { validity = v }) writing

pub tbs_certificate_stable : {P : Type 0} (check : List ℕ → Result Unit ErrorKind) (writing : Writing (Validity P)) → IsStable (validity {P = P}).good writing → IsStable (tbs_certificate {P = P} check).good (tbs_certificate_writing writing)
unfolding tbs_certificate_fields fields_good
tbs_certificate_stable check writing stable =
    with_field_stable _ _ writing (λ t v. refl) (λ t u v. refl) (λ t g. g.0.1.1.1.1) (λ t v g h. ((g.0.0, (g.0.1.0, (g.0.1.1.0, (g.0.1.1.1.0, h)))), g.1)) stable

-- ---- under Rfc5280

abbrev pub rfc5280_tbs_certificate : Form (TbsCertificateInner Rfc5280)
rfc5280_tbs_certificate = tbs_certificate rfc5280_serial_number

-- ---- the byte order

abbrev pub tbs_certificate_taken : {P : Type 0} → TbsCertificateInner P → (Front P × Behind)
tbs_certificate_taken = λ t. (
  (t.version, (t.serial_number, (t.signature, (t.issuer, t.validity)))),
  (t.subject, (t.subject_public_key_info, (t.issuer_unique_id, (t.subject_unique_id, t.extensions)))),
)

abbrev pub tbs_certificate_cmp : {P : Type 0} → (List ℕ → Result Unit ErrorKind) → Writing (Validity P) → PartOrder (Front P × Behind)
tbs_certificate_cmp check writing =
    (by_default version_default (explicit 0 version) (der_order version (writes plain) (named_order Integer version_names))
    ⊕ (by_required (serial_number check) plain (by_bytes (serial_number check)) ⊕ (by_required algorithm_identifier plain algorithm_identifier_order
    ⊕ (by_required name plain rdn_sequence_order ⊕ by_required validity writing validity_order)))) ⊕ (by_required name plain rdn_sequence_order
    ⊕ (by_required subject_public_key_info plain subject_public_key_info_order ⊕ (by_optional (implicit 1 bit_string) plain (by_bytes bit_string)
    ⊕ (by_optional (implicit 2 bit_string) plain (by_bytes bit_string)
    ⊕ by_optional (explicit 3 extensions) plain (der_order extensions (writes plain) extensions_order)))))

abbrev pub tbs_certificate_order : {P : Type 0} → (List ℕ → Result Unit ErrorKind) → Writing (Validity P) → Order (TbsCertificateInner P)
tbs_certificate_order check writing = by_parts
    tbs_certificate_taken
    (tbs_certificate_cmp check writing)

tbs_certificate_as_it_is : {P : Type 0} (check : List ℕ → Result Unit ErrorKind) (writing : Writing (Validity P)) → (v : TbsCertificateInner P)
    → writes (tbs_certificate_writing writing) v ≡ writes plain v
    → writes (tbs_certificate_cmp check writing).writing (tbs_certificate_taken v) ≡ writes plain (tbs_certificate_taken v)
tbs_certificate_as_it_is check plain v e = refl
tbs_certificate_as_it_is check (respelling by) v e = λ i. record { value = tbs_certificate_taken (e i).value; refusal = (e i).refusal }

pub tbs_certificate_ordered : {P : Type 0} (check : List ℕ → Result Unit ErrorKind) (writing : Writing (Validity P))
    → IsOrder (tbs_certificate {P = P} check) (writes (tbs_certificate_writing writing)) (tbs_certificate_order check writing)
unfolding tbs_certificate_fields
tbs_certificate_ordered check writing = parts_ordered Sequence _ _ (tbs_certificate_cmp check writing) (tbs_certificate_writing writing)
    (λ v. refl) (tbs_certificate_as_it_is check writing)
    (search (order_rules, named_ordered, version_default_lawful, serial_ordered, algorithm_identifier_ordered, rdn_sequence_ordered, validity_ordered, subject_public_key_info_ordered, bit_string_ordered, extensions_ordered) depth 20)
