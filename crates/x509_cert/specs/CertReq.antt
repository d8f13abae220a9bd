-- CertReqInfo: version: Version, subject: Name, public_key: SubjectPublicKeyInfo, attributes: [0]set Attribute (RFC 2986 4.1)
-- CertReq: info: CertReqInfo, algorithm: AlgorithmIdentifier, signature: BIT STRING (RFC 2986 4.2)
use Rattle.std.specs.Prelude.{List, refl}
use Rattle.x509_base.specs.AlgorithmIdentifier.{algorithm_identifier, algorithm_identifier_lawful, algorithm_identifier_order, algorithm_identifier_ordered}
use Rattle.x509_base.specs.SubjectPublicKeyInfo.{subject_public_key_info, subject_public_key_info_lawful, subject_public_key_info_order, subject_public_key_info_ordered}
use Rattle.x509_base.specs.declared.algorithm_identifier.AlgorithmIdentifier.{AlgorithmIdentifier}
use Rattle.x509_base.specs.declared.subject_public_key_info.SubjectPublicKeyInfo.{SubjectPublicKeyInfo}
use Rattle.x509_cert.specs.RequestVersion.{version, version_lawful, version_names}
use Rattle.x509_cert.specs.declared.request.cert_req.CertReq.{CertReq}
use Rattle.x509_cert.specs.declared.request.cert_req.CertReqInfo.{CertReqInfo}
use Rattle.x509_cert.specs.declared.request.version.Version.{Version}
use Rattle.x509_der.specs.declared.error.ErrorKind.{ErrorKind}
use Rattle.x509_der.specs.declared.tag.Tag.TheVariants.{Sequence, Set, Integer}
use Rattle.x509_der.specs.Frames.{implicit, Part, required, ◌⊗◌, fields}
use Rattle.x509_der.specs.PartRules.{part_rules}
use Rattle.x509_der.specs.Form.{Form, IsForm, Contents, IsContents, universal}
use Rattle.x509_der.specs.FormLaws.{universal_lawful}
use Rattle.x509_der.specs.Set.{set_of}
use Rattle.x509_der.specs.SetLaws.{set_lawful, set_ordered}
use Rattle.x509_name.specs.Attribute.{attribute, attribute_cmp, attribute_contents, attribute_contents_lawful, attribute_order, attribute_ordered}
use Rattle.x509_name.specs.declared.attr.attribute.Attribute.{Attribute}
use Rattle.x509_name.specs.declared.attr.type_and_value.AttributeTypeAndValue.{AttributeTypeAndValue}
use Rattle.x509_name.specs.Names.{name, rdn_sequence_lawful, rdn_sequence_order, rdn_sequence_ordered}
use Rattle.x509_prim.specs.BitString.{BitParts, bit_string}
use Rattle.x509_prim.specs.BitStringLaws.{bit_string_lawful, bit_string_ordered}
use Rattle.x509_der.specs.Writing.{plain, writes}
use Rattle.x509_der.specs.Order.{Order, IsOrder}
use Rattle.x509_der.specs.PartOrder.{PartOrder, by_parts, by_required, ◌⊕◌, plain_parts_ordered}
use Rattle.x509_der.specs.OrderRules.{order_rules}
use Rattle.x509_prim.specs.NamesLaws.{named_order, named_ordered}
use Rattle.x509_der.specs.Ordered.{by_members, by_bytes}

-- ---- what is signed

-- SET OF Attribute, in the order of their encodings
abbrev pub attributes : Form (List Attribute)
attributes = universal Set (set_of attribute attribute_cmp)

attributes_lawful : {R : ErrorKind → Type 0} → IsForm R attributes
attributes_lawful = universal_lawful Set _ (set_lawful attribute attribute_cmp (universal_lawful Sequence attribute_contents attribute_contents_lawful))

unfoldable pub cert_req_info_fields : Part (Version × (List (List AttributeTypeAndValue) × (SubjectPublicKeyInfo × List Attribute)))
cert_req_info_fields = required version ⊗ (required name ⊗ (required subject_public_key_info ⊗ required (implicit 0 attributes)))

abbrev pub cert_req_info_contents : Contents CertReqInfo
cert_req_info_contents = fields (λ i. (i.version, (i.subject, (i.public_key, i.attributes)))) (λ (version, (subject, (public_key, attributes))). record { version = version; subject = subject; public_key = public_key; attributes = attributes }) cert_req_info_fields

abbrev pub cert_req_info : Form CertReqInfo
cert_req_info = universal Sequence cert_req_info_contents

pub cert_req_info_contents_lawful : {R : ErrorKind → Type 0} → IsContents R cert_req_info_contents
unfolding cert_req_info_fields
cert_req_info_contents_lawful = search (part_rules, version_lawful, rdn_sequence_lawful, subject_public_key_info_lawful, attributes_lawful) depth 20

pub cert_req_info_lawful : {R : ErrorKind → Type 0} → IsForm R cert_req_info
cert_req_info_lawful = universal_lawful Sequence cert_req_info_contents cert_req_info_contents_lawful

-- ---- the request

unfoldable pub cert_req_fields : Part (CertReqInfo × (AlgorithmIdentifier × BitParts))
cert_req_fields = required cert_req_info ⊗ (required algorithm_identifier ⊗ required bit_string)

abbrev pub cert_req_contents : Contents CertReq
cert_req_contents = fields (λ r. (r.info, (r.algorithm, r.signature))) (λ (info, (algorithm, signature)). record { info = info; algorithm = algorithm; signature = signature }) cert_req_fields

abbrev pub cert_req : Form CertReq
cert_req = universal Sequence cert_req_contents

pub cert_req_contents_lawful : {R : ErrorKind → Type 0} → IsContents R cert_req_contents
unfolding cert_req_fields
cert_req_contents_lawful = search (part_rules, cert_req_info_lawful, algorithm_identifier_lawful, bit_string_lawful) depth 20

-- ---- the byte order

abbrev pub attributes_order : Order (List Attribute)
attributes_order = by_members attribute_cmp

attributes_ordered : IsOrder attributes (writes plain) attributes_order
attributes_ordered = set_ordered attribute plain attribute_order attribute_ordered

abbrev pub cert_req_info_cmp : PartOrder (Version × (List (List AttributeTypeAndValue) × (SubjectPublicKeyInfo × List Attribute)))
cert_req_info_cmp =
    by_required version plain (named_order Integer version_names) ⊕ (by_required name plain rdn_sequence_order
    ⊕ (by_required subject_public_key_info plain subject_public_key_info_order ⊕ by_required (implicit 0 attributes) plain attributes_order))

abbrev pub cert_req_info_order : Order CertReqInfo
cert_req_info_order = by_parts
    (λ i. (i.version, (i.subject, (i.public_key, i.attributes))))
    cert_req_info_cmp

pub cert_req_info_ordered : IsOrder cert_req_info (writes plain) cert_req_info_order
unfolding cert_req_info_fields
cert_req_info_ordered = plain_parts_ordered Sequence _ _ cert_req_info_cmp (λ v. refl) refl
    (search (order_rules, named_ordered, rdn_sequence_ordered, subject_public_key_info_ordered, attributes_ordered) depth 20)

-- ---- the byte order

abbrev pub cert_req_cmp : PartOrder (CertReqInfo × (AlgorithmIdentifier × BitParts))
cert_req_cmp =
    by_required cert_req_info plain cert_req_info_order ⊕ (by_required algorithm_identifier plain algorithm_identifier_order
    ⊕ by_required bit_string plain (by_bytes bit_string))

abbrev pub cert_req_order : Order CertReq
cert_req_order = by_parts
    (λ r. (r.info, (r.algorithm, r.signature)))
    cert_req_cmp

pub cert_req_ordered : IsOrder cert_req (writes plain) cert_req_order
unfolding cert_req_fields
cert_req_ordered = plain_parts_ordered Sequence _ _ cert_req_cmp (λ v. refl) refl
    (search (order_rules, cert_req_info_ordered, algorithm_identifier_ordered, bit_string_ordered) depth 20)
