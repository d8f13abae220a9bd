-- What laws say of certificates that are written.
use Rattle.std.specs.Prelude.{◌≡◌, ℕ, List, None, Result, Ok}
use Rattle.x509_der.specs.declared.error.ErrorKind.{ErrorKind}
use Rattle.x509_der.specs.declared.tag.Tag.TheVariants.{Sequence}
use Rattle.x509_der.specs.Form.{Form, universal}
use Rattle.x509_der.specs.Writing.{Writing, writes}
use Rattle.x509_der.specs.List.{list_of}
use Rattle.x509_base.specs.Profiles.{rfc5280_time}
use Rattle.x509_base.specs.declared.validity.Validity.{Validity}
use Rattle.x509_cert.specs.TbsCertificate.{tbs_certificate}
use Rattle.x509_cert.specs.Certificate.{certificate}
use Rattle.x509_cert.specs.declared.certificate.certificate.CertificateInner.{CertificateInner}
use Rattle.x509_cert.specs.declared.certificate.tbs_certificate.TbsCertificateInner.{TbsCertificateInner}

-- each value is written, and as it is
abbrev pub Stays : {X : Type 0} → Writing X → Type 0
Stays {X} writing = (v : X) → writes writing v ≡ record { value = v; refusal = None }

-- both dates are spelled already as RFC 5280 4.1.2.5 wants it
abbrev pub HasRfc5280Dates : {P : Type 0} → Validity P → Type 0
HasRfc5280Dates validity = (rfc5280_time validity.not_before ≡ validity.not_before) × (rfc5280_time validity.not_after ≡ validity.not_after)

-- ---- certificates whose serial numbers may have any content octets

abbrev pub no_check : List ℕ → Result Unit ErrorKind
no_check content = Ok tt

abbrev pub any_tbs_certificate : {P : Type 0} → Form (TbsCertificateInner P)
any_tbs_certificate = tbs_certificate no_check

abbrev pub any_certificate : {P : Type 0} → Form (CertificateInner P)
any_certificate = certificate no_check

abbrev pub any_certificates : {P : Type 0} → Form (List (CertificateInner P))
any_certificates = universal Sequence (list_of any_certificate)
