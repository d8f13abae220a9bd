-- The elements of a certificate, as they stand in its bytes, whatever stands in them (RFC 5280 4.1).
use Rattle.std.specs.Prelude.{◌≡◌, ◌≤◌, ℕ, List, ◌++◌, length, Option, IfSome, option_copied}
use Rattle.x509_cert.specs.declared.signed.certificate_slices.CertificateSlices.{CertificateSlices}
use Rattle.x509_cert.specs.declared.signed.certificate_slices.TbsCertificateSlices.{TbsCertificateSlices}
use Rattle.x509_der.specs.Element.{element, limit}
use Rattle.x509_der.specs.Frames.{optional_octets}

-- an element with this identifier octet, of any content (X.690 8.1.1)
abbrev pub IsElement : ℕ → List ℕ → Type 0
IsElement tag bytes = (content : List ℕ) × (bytes ≡ element tag content)

-- ---- the signed part

-- The elements of its fields. Of the version and the extensions it is the element inside the explicit tag.
pub record TbsElements : Type 0 where
  pub version : Option (List ℕ)
  pub serial_number : List ℕ
  pub signature : List ℕ
  pub issuer : List ℕ
  pub validity : List ℕ
  pub subject : List ℕ
  pub subject_public_key_info : List ℕ
  pub issuer_unique_id : Option (List ℕ)
  pub subject_unique_id : Option (List ℕ)
  pub extensions : Option (List ℕ)

-- the fields up to the validity, one after the other; the version stands in an element A0 (X.690 8.14.2)
abbrev pub front_octets : TbsElements → List ℕ
front_octets e = optional_octets (element 0xA0) e.version ++ (e.serial_number ++ (e.signature ++ (e.issuer ++ e.validity)))

-- the fields from the subject on; the extensions stand in an element A3
abbrev pub behind_octets : TbsElements → List ℕ
behind_octets e = e.subject ++ (e.subject_public_key_info ++ (optional_octets (λ x. x) e.issuer_unique_id ++ (optional_octets (λ x. x) e.subject_unique_id ++ optional_octets (element 0xA3) e.extensions)))

-- The bytes are one SEQUENCE of these elements, which have the identifier octets of RFC 5280 4.1.
pub record HasTbsElements (bytes : List ℕ) (e : TbsElements) : Type 0 where
  pub whole : bytes ≡ element 0x30 (front_octets e ++ behind_octets e)
  pub within : length bytes ≤ limit
  pub version : IfSome e.version (IsElement 0x02)
  pub serial_number : IsElement 0x02 e.serial_number
  pub signature : IsElement 0x30 e.signature
  pub issuer : IsElement 0x30 e.issuer
  pub validity : IsElement 0x30 e.validity
  pub subject : IsElement 0x30 e.subject
  pub subject_public_key_info : IsElement 0x30 e.subject_public_key_info
  pub issuer_unique_id : IfSome e.issuer_unique_id (IsElement 0x81)
  pub subject_unique_id : IfSome e.subject_unique_id (IsElement 0x82)
  pub extensions : IfSome e.extensions (IsElement 0x30)

-- what slices lend
abbrev pub tbs_elements : TbsCertificateSlices → TbsElements
tbs_elements s = record {
  version = option_copied s.version;
  serial_number = s.serial_number.now;
  signature = s.signature.now;
  issuer = s.issuer.now;
  validity = s.validity.now;
  subject = s.subject.now;
  subject_public_key_info = s.subject_public_key_info.now;
  issuer_unique_id = option_copied s.issuer_unique_id;
  subject_unique_id = option_copied s.subject_unique_id;
  extensions = option_copied s.extensions;
}

-- ---- the whole

pub record CertificateElements : Type 0 where
  pub tbs_certificate : List ℕ
  pub fields : TbsElements
  pub signature_algorithm : List ℕ
  pub signature : List ℕ

-- The bytes are one SEQUENCE of the signed part, which has those elements, of the algorithm and of the signature (RFC 5280 4.1.1).
pub record HasCertificateElements (bytes : List ℕ) (e : CertificateElements) : Type 0 where
  pub whole : bytes ≡ element 0x30 (e.tbs_certificate ++ (e.signature_algorithm ++ e.signature))
  pub within : length bytes ≤ limit
  pub tbs_certificate : HasTbsElements e.tbs_certificate e.fields
  pub signature_algorithm : IsElement 0x30 e.signature_algorithm
  pub signature : IsElement 0x03 e.signature

abbrev pub certificate_elements : CertificateSlices → CertificateElements
certificate_elements s = record { tbs_certificate = s.tbs_certificate.now; fields = tbs_elements s.fields; signature_algorithm = s.signature_algorithm.now; signature = s.signature.now }
