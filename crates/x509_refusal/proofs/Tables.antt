-- The fields that are walked are those of the grammar lines.
use Rattle.std.proofs.Common.{◌≡◌, ◌↔◌, ℕ, List, [], ◌∷◌, ◌++◌, Option, Some, None, Result, Ok, Err, refl, sym, ap, ◌∙◌}
use Rattle.std.specs.Prelude.{IsOk}
use Rattle.x509_base.specs.Validity.{validity, validity_fields}
use Rattle.x509_base.specs.declared.profile.Raw.{Raw}
use Rattle.x509_cert.specs.CertReq.{attributes, cert_req_fields, cert_req_info, cert_req_info_fields}
use Rattle.x509_cert.specs.Certificate.{certificate_fields}
use Rattle.x509_cert.specs.CertificateList.{certificate_list_fields, tbs_cert_list, tbs_cert_list_fields}
use Rattle.x509_cert.specs.Respelling.{no_check}
use Rattle.x509_cert.specs.TbsCertificate.{tbs_certificate, tbs_certificate_fields}
use Rattle.x509_der.specs.Form.{universal}
use Rattle.x509_der.specs.Frames.{Part, defaulted, end_at, explicit, fields_reading, implicit, optional, required, ◌⊗◌}
use Rattle.x509_der.specs.Outcome.{◌>>=◌}
use Rattle.x509_der.specs.declared.error.ErrorKind.{ErrorKind}
use Rattle.x509_base.specs.AlgorithmIdentifier.{algorithm_identifier}
use Rattle.x509_base.specs.Serial.{serial_number}
use Rattle.x509_base.specs.SubjectPublicKeyInfo.{subject_public_key_info}
use Rattle.x509_base.specs.Time.{time}
use Rattle.x509_cert.specs.RequestVersion as requests
use Rattle.x509_cert.specs.RevokedCert.{revoked_cert}
use Rattle.x509_cert.specs.Version.{version, version_default}
use Rattle.x509_der.specs.List.{list_of}
use Rattle.x509_der.specs.declared.tag.Tag.TheVariants.{Sequence}
use Rattle.x509_ext.specs.Extension.{extensions}
use Rattle.x509_name.specs.Names.{name}
use Rattle.x509_prim.specs.BitString.{bit_string}
use Rattle.x509_refusal.specs.Fields.{fields_of}
use Rattle.x509_refusal.specs.Unread.{behind, left_by, unread_at, unread_from}
use Rattle.x509_refusal.specs.declared.field.Field.{Field}
use Rattle.x509_refusal.specs.declared.field.Field.TheVariants as fields

-- what a step leaves, where something is left for it
abbrev followed : Option (List ℕ) → (List ℕ → Option (List ℕ)) → Option (List ℕ)
followed None step = None
followed (Some rest) step = step rest

-- what all of the fields leave, one behind the other
abbrev all_left : List Field → List ℕ → Option (List ℕ)
all_left [] octets = Some octets
all_left (field ∷ others) octets = followed (behind field octets) (all_left others)

-- the fields are those of a part
pub record Same {X : Type 0} (table : List Field) (part : Part X) : Type 0 where
  pub left : (octets : List ℕ) → all_left table octets ≡ left_by (part.reading octets)

-- ---- tables of parts

alone : (left : Option (List ℕ)) → followed left (all_left []) ≡ left
alone None = refl
alone (Some rest) = refl

pub one : {X : Type 0} (field : Field) (part : Part X) → ((octets : List ℕ) → behind field octets ≡ left_by (part.reading octets)) → Same (field ∷ []) part
one field part h = record { left = λ octets. alone (behind field octets) ∙ h octets }

appended : (first others : List Field) → ((octets : List ℕ) → all_left (first ++ others) octets ≡ followed (all_left first octets) (all_left others))
    → (left : Option (List ℕ)) → followed left (all_left (first ++ others)) ≡ followed (followed left (all_left first)) (all_left others)
appended first others h None = refl
appended first others h (Some rest) = h rest

append : (first others : List Field) (octets : List ℕ) → all_left (first ++ others) octets ≡ followed (all_left first octets) (all_left others)
append [] others octets = refl
append (field ∷ first) others octets = appended first others (λ rest. append first others rest) (behind field octets)

module _ {X Y : Type 0} (p : Part X) (q : Part Y) where
  second_left : (x : X) (r : Result (Y × List ℕ) ErrorKind) → left_by {X = X × Y} (r >>= λ y. Ok ((x, y.0), y.1)) ≡ left_by r
  second_left x (Ok y) = refl
  second_left x (Err e) = refl

  both_left : (r : Result (X × List ℕ) ErrorKind) → left_by {X = X × Y} (r >>= λ x. q.reading x.1 >>= λ y. Ok ((x.0, y.0), y.1)) ≡ followed (left_by r) (λ rest. left_by (q.reading rest))
  both_left (Ok x) = second_left x.0 (q.reading x.1)
  both_left (Err e) = refl

  under : (others : List Field) → Same others q → (left : Option (List ℕ)) → followed left (all_left others) ≡ followed left (λ rest. left_by (q.reading rest))
  under others h None = refl
  under others h (Some rest) = h.left rest

  pub both : (first others : List Field) → Same first p → Same others q → Same (first ++ others) (p ⊗ q)
  both first others hp hq = record {
    left = λ octets.
        append first others octets ∙ ap (λ left. followed left (all_left others)) (hp.left octets) ∙ under others hq (left_by (p.reading octets)) ∙ sym (both_left (p.reading octets));
  }

-- ---- what is read whole

module _ (whole : Field) (end : ℕ) where
  further : (field : Field) (offset : ℕ) (others : List Field) → ((rest : List ℕ) → unread_from whole end others rest ≡ None → all_left others rest ≡ Some [])
      → (left : Option (List ℕ)) → unread_at field offset (unread_from whole end others) left ≡ None → followed left (all_left others) ≡ Some []
  further field offset others h None e = absurd cc
  further field offset others h (Some rest) e = h rest e

  from_none : (table : List Field) (octets : List ℕ) → unread_from whole end table octets ≡ None → all_left table octets ≡ Some []
  from_none [] [] e = refl
  from_none [] (octet ∷ octets) e = absurd cc
  from_none (field ∷ others) octets e = further field _ others (λ rest k. from_none others rest k) (behind field octets) e

  back : (field : Field) (offset : ℕ) (others : List Field) → ((rest : List ℕ) → all_left others rest ≡ Some [] → unread_from whole end others rest ≡ None)
      → (left : Option (List ℕ)) → followed left (all_left others) ≡ Some [] → unread_at field offset (unread_from whole end others) left ≡ None
  back field offset others h None e = absurd cc
  back field offset others h (Some rest) e = h rest e

  to_none : (table : List Field) (octets : List ℕ) → all_left table octets ≡ Some [] → unread_from whole end table octets ≡ None
  to_none [] [] e = refl
  to_none [] (octet ∷ octets) e = absurd cc
  to_none (field ∷ others) octets e = back field _ others (λ rest k. to_none others rest k) (behind field octets) e

module _ {X Y : Type 0} (from : X → Y) where
  ends : (x : X) (rest : List ℕ) → Some rest ≡ Some [] → IsOk (end_at rest >>= λ done. Ok (from x))
  ends x [] e = refl
  ends x (octet ∷ octets) e = absurd cc

  ended : (x : X) (rest : List ℕ) → IsOk (end_at rest >>= λ done. Ok (from x)) → Some rest ≡ Some []
  ended x [] h = refl
  ended x (octet ∷ octets) h = absurd cc

  reads : (r : Result (X × List ℕ) ErrorKind) → left_by r ≡ Some [] → IsOk (r >>= λ x. end_at x.1 >>= λ done. Ok (from x.0))
  reads (Ok x) e = ends x.0 x.1 e
  reads (Err d) e = absurd cc

  read : (r : Result (X × List ℕ) ErrorKind) → IsOk (r >>= λ x. end_at x.1 >>= λ done. Ok (from x.0)) → left_by r ≡ Some []
  read (Ok x) h = ended x.0 x.1 h
  read (Err d) h = absurd cc

  pub are_read : (part : Part X) (whole : Field) (table : List Field) → Same table part → (octets : List ℕ)
      → ((end : ℕ) → unread_from whole end table octets ≡ None) ↔ IsOk (fields_reading from part octets)
  unfolding fields_reading
  are_read part whole table same octets = (
    λ h. reads (part.reading octets) (sym (same.left octets) ∙ from_none whole 0 table octets (h 0)),
    λ k end. to_none whole end table octets (same.left octets ∙ read (part.reading octets) k),
  )

-- ---- the tables

pub certificate_table : Same (fields_of fields.Certificate) (certificate_fields {P = Raw} no_check)
unfolding behind fields_of certificate_fields
certificate_table = both _ _ (fields.TbsCertificate ∷ []) (fields.SignatureAlgorithm ∷ fields.SignatureValue ∷ []) (one fields.TbsCertificate (required (tbs_certificate {P = Raw} no_check)) (λ octets. refl)) (both _ _ (fields.SignatureAlgorithm ∷ []) (fields.SignatureValue ∷ []) (one fields.SignatureAlgorithm (required algorithm_identifier) (λ octets. refl)) (one fields.SignatureValue (required bit_string) (λ octets. refl)))

pub tbs_certificate_table : Same (fields_of fields.TbsCertificate) (tbs_certificate_fields {P = Raw} no_check)
unfolding behind fields_of tbs_certificate_fields
tbs_certificate_table = both _ _ (fields.Version ∷ fields.SerialNumber ∷ fields.Signature ∷ fields.Issuer ∷ fields.Validity ∷ []) (fields.Subject ∷ fields.SubjectPublicKeyInfo ∷ fields.IssuerUniqueId ∷ fields.SubjectUniqueId ∷ fields.Extensions ∷ [])
    (both _ _ (fields.Version ∷ []) (fields.SerialNumber ∷ fields.Signature ∷ fields.Issuer ∷ fields.Validity ∷ []) (one fields.Version (defaulted version_default (explicit 0 version)) (λ octets. refl)) (both _ _ (fields.SerialNumber ∷ []) (fields.Signature ∷ fields.Issuer ∷ fields.Validity ∷ []) (one fields.SerialNumber (required (serial_number no_check)) (λ octets. refl)) (both _ _ (fields.Signature ∷ []) (fields.Issuer ∷ fields.Validity ∷ []) (one fields.Signature (required algorithm_identifier) (λ octets. refl)) (both _ _ (fields.Issuer ∷ []) (fields.Validity ∷ []) (one fields.Issuer (required name) (λ octets. refl)) (one fields.Validity (required (validity {P = Raw})) (λ octets. refl))))))
    (both _ _ (fields.Subject ∷ []) (fields.SubjectPublicKeyInfo ∷ fields.IssuerUniqueId ∷ fields.SubjectUniqueId ∷ fields.Extensions ∷ []) (one fields.Subject (required name) (λ octets. refl)) (both _ _ (fields.SubjectPublicKeyInfo ∷ []) (fields.IssuerUniqueId ∷ fields.SubjectUniqueId ∷ fields.Extensions ∷ []) (one fields.SubjectPublicKeyInfo (required subject_public_key_info) (λ octets. refl)) (both _ _ (fields.IssuerUniqueId ∷ []) (fields.SubjectUniqueId ∷ fields.Extensions ∷ []) (one fields.IssuerUniqueId (optional (implicit 1 bit_string)) (λ octets. refl)) (both _ _ (fields.SubjectUniqueId ∷ []) (fields.Extensions ∷ []) (one fields.SubjectUniqueId (optional (implicit 2 bit_string)) (λ octets. refl)) (one fields.Extensions (optional (explicit 3 extensions)) (λ octets. refl))))))

pub validity_table : Same (fields_of fields.Validity) (validity_fields)
unfolding behind fields_of validity_fields
validity_table = both _ _ (fields.NotBefore ∷ []) (fields.NotAfter ∷ []) (one fields.NotBefore (required time) (λ octets. refl)) (one fields.NotAfter (required time) (λ octets. refl))

pub certificate_list_table : Same (fields_of fields.CertificateList) (certificate_list_fields {P = Raw} no_check)
unfolding behind fields_of certificate_list_fields
certificate_list_table = both _ _ (fields.TbsCertList ∷ []) (fields.SignatureAlgorithm ∷ fields.SignatureValue ∷ []) (one fields.TbsCertList (required (tbs_cert_list {P = Raw} no_check)) (λ octets. refl)) (both _ _ (fields.SignatureAlgorithm ∷ []) (fields.SignatureValue ∷ []) (one fields.SignatureAlgorithm (required algorithm_identifier) (λ octets. refl)) (one fields.SignatureValue (required bit_string) (λ octets. refl)))

pub tbs_cert_list_table : Same (fields_of fields.TbsCertList) (tbs_cert_list_fields {P = Raw} no_check)
unfolding behind fields_of tbs_cert_list_fields
tbs_cert_list_table = both _ _ (fields.CrlVersion ∷ fields.CrlSignature ∷ fields.CrlIssuer ∷ fields.ThisUpdate ∷ []) (fields.NextUpdate ∷ fields.RevokedCertificates ∷ fields.CrlExtensions ∷ [])
    (both _ _ (fields.CrlVersion ∷ []) (fields.CrlSignature ∷ fields.CrlIssuer ∷ fields.ThisUpdate ∷ []) (one fields.CrlVersion (optional version) (λ octets. refl)) (both _ _ (fields.CrlSignature ∷ []) (fields.CrlIssuer ∷ fields.ThisUpdate ∷ []) (one fields.CrlSignature (required algorithm_identifier) (λ octets. refl)) (both _ _ (fields.CrlIssuer ∷ []) (fields.ThisUpdate ∷ []) (one fields.CrlIssuer (required name) (λ octets. refl)) (one fields.ThisUpdate (required time) (λ octets. refl)))))
    (both _ _ (fields.NextUpdate ∷ []) (fields.RevokedCertificates ∷ fields.CrlExtensions ∷ []) (one fields.NextUpdate (optional time) (λ octets. refl)) (both _ _ (fields.RevokedCertificates ∷ []) (fields.CrlExtensions ∷ []) (one fields.RevokedCertificates (optional (universal Sequence (list_of (revoked_cert {P = Raw} no_check)))) (λ octets. refl)) (one fields.CrlExtensions (optional (explicit 0 extensions)) (λ octets. refl))))

pub cert_req_table : Same (fields_of fields.CertificationRequest) (cert_req_fields)
unfolding behind fields_of cert_req_fields
cert_req_table = both _ _ (fields.CertificationRequestInfo ∷ []) (fields.SignatureAlgorithm ∷ fields.RequestSignature ∷ []) (one fields.CertificationRequestInfo (required cert_req_info) (λ octets. refl)) (both _ _ (fields.SignatureAlgorithm ∷ []) (fields.RequestSignature ∷ []) (one fields.SignatureAlgorithm (required algorithm_identifier) (λ octets. refl)) (one fields.RequestSignature (required bit_string) (λ octets. refl)))

pub cert_req_info_table : Same (fields_of fields.CertificationRequestInfo) (cert_req_info_fields)
unfolding behind fields_of cert_req_info_fields
cert_req_info_table = both _ _ (fields.RequestVersion ∷ []) (fields.RequestSubject ∷ fields.SubjectPkInfo ∷ fields.Attributes ∷ []) (one fields.RequestVersion (required requests.version) (λ octets. refl)) (both _ _ (fields.RequestSubject ∷ []) (fields.SubjectPkInfo ∷ fields.Attributes ∷ []) (one fields.RequestSubject (required name) (λ octets. refl)) (both _ _ (fields.SubjectPkInfo ∷ []) (fields.Attributes ∷ []) (one fields.SubjectPkInfo (required subject_public_key_info) (λ octets. refl)) (one fields.Attributes (required (implicit 0 attributes)) (λ octets. refl))))
