-- The signed bytes of a certificate.
use Rattle.std.proofs.Common.{◌≡◌, ◌↔◌, ℕ, List, Result, Ok, refl, ap}
use Rattle.x509_der.specs.declared.error.ErrorKind.{ErrorKind}
use Rattle.x509_der.specs.Form.{Spells, spelling}
use Rattle.x509_der.specs.Writing.{Writing, respelling, writes, written_spelling, IsStable}
use Rattle.x509_cert.specs.Signed.{IsSignedPart}
use Rattle.x509_cert.specs.SignedLaws.{one_part, first_field_is_signed, written_as_it_is}
use Rattle.x509_der.specs.Frames.{required, ◌⊗◌}
use Rattle.x509_prim.specs.BitString.{bit_string}
use Rattle.x509_base.specs.Profiles.{rfc5280_time}
use Rattle.x509_base.specs.Validity.{validity, respelled_validity}
use Rattle.x509_base.specs.declared.validity.Validity.{Validity}
use Rattle.x509_base.specs.AlgorithmIdentifier.{algorithm_identifier}
use Rattle.x509_cert.specs.TbsCertificate.{tbs_certificate, tbs_certificate_contents, tbs_certificate_lawful, tbs_certificate_writing, tbs_certificate_stable}
use Rattle.x509_cert.specs.Certificate.{certificate, certificate_fields}
use Rattle.x509_cert.specs.Respelling.{HasRfc5280Dates}
use Rattle.x509_cert.specs.declared.certificate.certificate.CertificateInner.{CertificateInner}
use Rattle.x509_cert.specs.declared.certificate.tbs_certificate.TbsCertificateInner.{TbsCertificateInner}

module _ {P : Type 0} (check : List ℕ → Result Unit ErrorKind) (value : CertificateInner P) (bytes : List ℕ) (spells : Spells (certificate check) value bytes) where
  pub stands : IsSignedPart bytes (spelling (tbs_certificate check) value.tbs_certificate) × Spells (tbs_certificate check) value.tbs_certificate (spelling (tbs_certificate check) value.tbs_certificate)
  unfolding certificate_fields
  stands = first_field_is_signed (λ (c : CertificateInner P). (c.tbs_certificate, (c.signature_algorithm, c.signature))) (tbs_certificate_contents check) (required algorithm_identifier ⊗ required bit_string) value bytes spells

  pub signed_is : (signed : List ℕ) → IsSignedPart bytes signed → signed ≡ spelling (tbs_certificate check) value.tbs_certificate
  signed_is signed part = one_part bytes signed (spelling (tbs_certificate check) value.tbs_certificate) part stands.0

  pub signed_spells : (signed : List ℕ) → IsSignedPart bytes signed → Spells (tbs_certificate check) value.tbs_certificate signed
  signed_spells signed part = let is = signed_is signed part in rw is stands.1

-- ---- dates as RFC 5280 spells them

abbrev rfc5280_writing : {P : Type 0} → Writing (Validity P)
rfc5280_writing = respelling (respelled_validity (λ time. Ok (rfc5280_time time)))

module _ {P : Type 0} (part : TbsCertificateInner P) where
  same_dates : (writes (tbs_certificate_writing rfc5280_writing) part).value ≡ part → HasRfc5280Dates part.validity
  same_dates e = (ap (λ (t : TbsCertificateInner P). t.validity.not_before) e, ap (λ (t : TbsCertificateInner P). t.validity.not_after) e)

  same_part : HasRfc5280Dates part.validity → (writes (tbs_certificate_writing rfc5280_writing) part).value ≡ part
  same_part dates = rw (dates.0, dates.1) refl

pub written_again : {P : Type 0} (check : List ℕ → Result Unit ErrorKind) → IsStable (validity {P = P}).good rfc5280_writing → (value : CertificateInner P) (bytes signed : List ℕ) → Spells (certificate check) value bytes → IsSignedPart bytes signed
    → (written_spelling (tbs_certificate check) (writes (tbs_certificate_writing rfc5280_writing) value.tbs_certificate) ≡ signed) ↔ HasRfc5280Dates value.tbs_certificate.validity
written_again check stable value bytes signed spells part =
    let again = written_as_it_is (tbs_certificate check) (tbs_certificate_lawful check) (tbs_certificate_writing rfc5280_writing) (tbs_certificate_stable check rfc5280_writing stable) value.tbs_certificate signed (signed_spells check value bytes spells signed part) refl in
    ((λ same. same_dates value.tbs_certificate (again.0 same)), (λ dates. again.1 (same_part value.tbs_certificate dates)))
