-- CertificateInner: tbs_certificate: TbsCertificateInner, signature_algorithm: AlgorithmIdentifier, signature: BIT STRING
-- (RFC 5280 4.1.1)
use Rattle.std.specs.Prelude.{ℕ, List, Result, refl, ◌≡◌}
use Rattle.x509_der.specs.declared.error.ErrorKind.{ErrorKind}
use Rattle.x509_der.specs.declared.tag.Tag.TheVariants.{Sequence}
use Rattle.x509_der.specs.Form.{Form, IsForm, Contents, IsContents, universal}
use Rattle.x509_der.specs.FormLaws.{universal_lawful}
use Rattle.x509_der.specs.StableLaws.{with_field_stable}
use Rattle.x509_der.specs.Writing.{Writing, with_field, IsStable, plain, writes, respelling}
use Rattle.x509_der.specs.Frames.{Part, required, ◌⊗◌, fields, fields_good}
use Rattle.x509_der.specs.PartRules.{part_rules}
use Rattle.x509_prim.specs.BitString.{BitParts, bit_string}
use Rattle.x509_prim.specs.BitStringLaws.{bit_string_lawful, bit_string_ordered}
use Rattle.x509_base.specs.Checked.{CheckRefuses}
use Rattle.x509_base.specs.AlgorithmIdentifier.{algorithm_identifier, algorithm_identifier_lawful, algorithm_identifier_order, algorithm_identifier_ordered}
use Rattle.x509_base.specs.declared.algorithm_identifier.AlgorithmIdentifier.{AlgorithmIdentifier}
use Rattle.x509_cert.specs.TbsCertificate.{tbs_certificate, tbs_certificate_lawful, tbs_certificate_order, tbs_certificate_ordered, tbs_certificate_writing}
use Rattle.x509_cert.specs.declared.certificate.certificate.CertificateInner.{CertificateInner}
use Rattle.x509_cert.specs.declared.certificate.tbs_certificate.TbsCertificateInner.{TbsCertificateInner}
use Rattle.x509_base.specs.Profiles.{rfc5280_serial_number}
use Rattle.x509_base.specs.declared.profile.Rfc5280.{Rfc5280}
use Rattle.x509_der.specs.Order.{Order, IsOrder}
use Rattle.x509_der.specs.Ordered.{by_bytes}
use Rattle.x509_der.specs.PartOrder.{PartOrder, by_parts, by_required, ◌⊕◌, parts_ordered}
use Rattle.x509_der.specs.OrderRules.{order_rules}
use Rattle.x509_base.specs.declared.validity.Validity.{Validity}

unfoldable pub certificate_fields : {P : Type 0} → (List ℕ → Result Unit ErrorKind) → Part (TbsCertificateInner P × (AlgorithmIdentifier × BitParts))
certificate_fields check = required (tbs_certificate check) ⊗ (required algorithm_identifier ⊗ required bit_string)

-- the check is that of the profile on the content octets of the serial number
abbrev pub certificate_contents : {P : Type 0} → (List ℕ → Result Unit ErrorKind) → Contents (CertificateInner P)
certificate_contents check = fields (λ c. (c.tbs_certificate, (c.signature_algorithm, c.signature))) (λ (tbs_certificate, (signature_algorithm, signature)). record { tbs_certificate = tbs_certificate; signature_algorithm = signature_algorithm; signature = signature }) (certificate_fields check)

abbrev pub certificate : {P : Type 0} → (List ℕ → Result Unit ErrorKind) → Form (CertificateInner P)
certificate check = universal Sequence (certificate_contents check)

pub certificate_contents_lawful : {P : Type 0} (check : List ℕ → Result Unit ErrorKind) → IsContents (CheckRefuses check) (certificate_contents {P = P} check)
unfolding certificate_fields
certificate_contents_lawful check = search (part_rules, tbs_certificate_lawful, algorithm_identifier_lawful, bit_string_lawful) depth 20

pub certificate_lawful : {P : Type 0} (check : List ℕ → Result Unit ErrorKind) → IsForm (CheckRefuses check) (certificate {P = P} check)
certificate_lawful check = universal_lawful Sequence (certificate_contents check) (certificate_contents_lawful check)

-- the signed part as it is written, the rest as it is
abbrev pub certificate_writing : {P : Type 0} → Writing (TbsCertificateInner P) → Writing (CertificateInner P)
certificate_writing writing = with_field (λ c. c.tbs_certificate) (λ c t. record c { tbs_certificate = t }) writing

pub certificate_stable : {P : Type 0} (check : List ℕ → Result Unit ErrorKind) (writing : Writing (TbsCertificateInner P)) → IsStable (tbs_certificate {P = P} check).good writing → IsStable (certificate {P = P} check).good (certificate_writing writing)
unfolding certificate_fields fields_good
certificate_stable check writing stable = with_field_stable _ _ writing (λ c t. refl) (λ c s t. refl) (λ c g. g.0) (λ c t g h. (h, g.1)) stable

-- ---- under Rfc5280

abbrev pub rfc5280_certificate : Form (CertificateInner Rfc5280)
rfc5280_certificate = certificate rfc5280_serial_number

-- ---- the byte order

abbrev pub certificate_taken : {P : Type 0} → CertificateInner P → (TbsCertificateInner P × (AlgorithmIdentifier × BitParts))
certificate_taken = λ c. (c.tbs_certificate, (c.signature_algorithm, c.signature))

abbrev pub certificate_cmp : {P : Type 0} → (List ℕ → Result Unit ErrorKind) → Writing (Validity P)
    → PartOrder (TbsCertificateInner P × (AlgorithmIdentifier × BitParts))
certificate_cmp check writing =
    by_required (tbs_certificate check) (tbs_certificate_writing writing) (tbs_certificate_order check writing)
    ⊕ (by_required algorithm_identifier plain algorithm_identifier_order ⊕ by_required bit_string plain (by_bytes bit_string))

abbrev pub certificate_order : {P : Type 0} → (List ℕ → Result Unit ErrorKind) → Writing (Validity P) → Order (CertificateInner P)
certificate_order check writing = by_parts
    certificate_taken
    (certificate_cmp check writing)

certificate_as_it_is : {P : Type 0} (check : List ℕ → Result Unit ErrorKind) (writing : Writing (Validity P)) → (v : CertificateInner P)
    → writes (certificate_writing (tbs_certificate_writing writing)) v ≡ writes plain v
    → writes (certificate_cmp check writing).writing (certificate_taken v) ≡ writes plain (certificate_taken v)
certificate_as_it_is check plain v e = refl
certificate_as_it_is check (respelling by) v e = λ i. record { value = certificate_taken (e i).value; refusal = (e i).refusal }

pub certificate_ordered : {P : Type 0} (check : List ℕ → Result Unit ErrorKind) (writing : Writing (Validity P))
    → IsOrder (certificate {P = P} check) (writes (certificate_writing (tbs_certificate_writing writing))) (certificate_order check writing)
unfolding certificate_fields
certificate_ordered check writing = parts_ordered Sequence _ _ (certificate_cmp check writing) (certificate_writing
    (tbs_certificate_writing writing)) (λ v. refl) (certificate_as_it_is check writing)
    (search (order_rules, tbs_certificate_ordered, algorithm_identifier_ordered, bit_string_ordered) depth 20)
