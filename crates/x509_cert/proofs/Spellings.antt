-- The elements of a certificate's bytes are the spellings of its fields.
use Rattle.std.proofs.Common.{◌≡◌, ℕ, ◌+◌, List, Option, Some, None, IfSome, Result, option_map, if◌then◌else◌, refl, ap, ◌∙◌}
use Rattle.x509_base.specs.AlgorithmIdentifier.{algorithm_identifier}
use Rattle.x509_base.specs.Serial.{serial_number}
use Rattle.x509_base.specs.SubjectPublicKeyInfo.{subject_public_key_info}
use Rattle.x509_base.specs.Validity.{validity}
use Rattle.x509_cert.specs.Certificate.{certificate, certificate_fields}
use Rattle.x509_cert.specs.Spellings.{tbs_spellings, certificate_spellings}
use Rattle.x509_cert.specs.TbsCertificate.{tbs_certificate, tbs_certificate_fields}
use Rattle.x509_cert.specs.Version.{version, version_default, is_first}
use Rattle.x509_cert.specs.declared.certificate.certificate.CertificateInner.{CertificateInner}
use Rattle.x509_cert.specs.declared.certificate.tbs_certificate.TbsCertificateInner.{TbsCertificateInner}
use Rattle.x509_cert.specs.declared.certificate.version.Version.{Version}
use Rattle.x509_cert.specs.declared.certificate.version.Version.TheVariants.{V1, V2, V3}
use Rattle.x509_cert.proofs.CertificateSignedPart.{stands}
use Rattle.x509_ext.specs.Extension.{extensions}
use Rattle.x509_name.specs.Names.{name}
use Rattle.x509_cert.specs.Elements.{IsElement, HasTbsElements, CertificateElements, HasCertificateElements}
use Rattle.x509_cert.specs.ElementPartsLaws.{one_certificate}
use Rattle.x509_der.specs.Element.{element}
use Rattle.x509_der.specs.declared.error.ErrorKind.{ErrorKind}
use Rattle.x509_der.specs.Frames.{explicit, implicit, optional_octets, default_octets, fields_octets}
use Rattle.x509_der.specs.Form.{Form, HasTag, Spells, spelling}
use Rattle.x509_prim.specs.BitString.{bit_string}

-- ---- fields that may be left out

version_text : (v : Version) → default_octets version_default (spelling (explicit 0 version)) v ≡ optional_octets (element 0xA0) (if is_first v then None else Some (spelling version v))
unfolding default_octets
version_text V1 = refl
version_text V2 = refl
version_text V3 = refl

version_is_element : (v : Version) → IfSome (if is_first v then None else Some (spelling version v)) (IsElement 0x02)
version_is_element V1 = tt
version_is_element V2 = (version.content V2, refl)
version_is_element V3 = (version.content V3, refl)

field_text : {X : Type 0} (form : Form X) (value : Option X) → optional_octets (spelling form) value ≡ optional_octets (λ bytes. bytes) (option_map (spelling form) value)
field_text form None = refl
field_text form (Some value) = refl

inside_text : {X : Type 0} (n : ℕ) (form : Form X) (value : Option X) → optional_octets (spelling (explicit n form)) value ≡ optional_octets (element (160 + n)) (option_map (spelling form) value)
inside_text n form None = refl
inside_text n form (Some value) = refl

is_element : {X : Type 0} (tag : ℕ) (form : Form X) → HasTag tag form → (value : Option X) → IfSome (option_map (spelling form) value) (IsElement tag)
is_element tag form fixed None = tt
is_element tag form fixed (Some value) = (form.content value, ap (λ t. element t (form.content value)) (fixed value))

-- ---- the signed part

module _ {P : Type 0} (check : List ℕ → Result Unit ErrorKind) where
  pub tbs_found : (value : TbsCertificateInner P) (bytes : List ℕ) → Spells (tbs_certificate check) value bytes → HasTbsElements bytes (tbs_spellings value)
  unfolding tbs_certificate_fields fields_octets
  tbs_found value bytes spells = record {
    whole = spells.1 ∙ rw (version_text value.version, field_text (implicit 1 bit_string) value.issuer_unique_id, field_text (implicit 2 bit_string) value.subject_unique_id, inside_text 3 extensions value.extensions) refl;
    within = spells.2;
    version = version_is_element value.version;
    serial_number = ((serial_number check).content value.serial_number, refl);
    signature = (algorithm_identifier.content value.signature, refl);
    issuer = (name.content value.issuer, refl);
    validity = (validity.content value.validity, refl);
    subject = (name.content value.subject, refl);
    subject_public_key_info = (subject_public_key_info.content value.subject_public_key_info, refl);
    issuer_unique_id = is_element 0x81 (implicit 1 bit_string) (λ v. refl) value.issuer_unique_id;
    subject_unique_id = is_element 0x82 (implicit 2 bit_string) (λ v. refl) value.subject_unique_id;
    extensions = is_element 0x30 extensions (λ v. refl) value.extensions;
  }

  pub certificate_found : (value : CertificateInner P) (bytes : List ℕ) → Spells (certificate check) value bytes → HasCertificateElements bytes (certificate_spellings value)
  unfolding certificate_fields tbs_certificate_fields fields_octets
  certificate_found value bytes spells = record {
    whole = spells.1;
    within = spells.2;
    tbs_certificate = tbs_found value.tbs_certificate (spelling (tbs_certificate check) value.tbs_certificate) (stands check value bytes spells).1;
    signature_algorithm = (algorithm_identifier.content value.signature_algorithm, refl);
    signature = (bit_string.content value.signature, refl);
  }

  pub certificate_only : (value : CertificateInner P) (bytes : List ℕ) (e : CertificateElements) → Spells (certificate check) value bytes → HasCertificateElements bytes e → e ≡ certificate_spellings value
  certificate_only value bytes e spells has = one_certificate bytes e (certificate_spellings value) has (certificate_found value bytes spells)
