-- A walk over a certificate, which checks it, lends its fields, and decodes its validity on the way.
use Rattle.std.specs.Prelude.{◌≡◌}
use Rattle.x509_cert.specs.Elements.{certificate_elements, tbs_elements}
use Rattle.x509_cert.specs.Spellings.{certificate_spellings, tbs_spellings}
use Rattle.x509_cert.specs.declared.certificate.certificate.CertificateInner.{CertificateInner}
use Rattle.x509_cert.specs.declared.certificate.tbs_certificate.TbsCertificateInner.{TbsCertificateInner}
use Rattle.x509_check.specs.declared.lent.certificate_walk.WalkedCertificate.{WalkedCertificate}
use Rattle.x509_check.specs.declared.lent.certificate_walk.WalkedFields.{WalkedFields}

-- the elements of the fields of a signed part, and its validity
abbrev pub LendsPart : {P : Type 0} → TbsCertificateInner P → WalkedFields → Type 0
LendsPart part walked = (tbs_elements walked.fields ≡ tbs_spellings part) × (walked.not_before ≡ part.validity.not_before) × (walked.not_after ≡ part.validity.not_after)

-- the same of a certificate
abbrev pub LendsWhole : {P : Type 0} → CertificateInner P → WalkedCertificate → Type 0
LendsWhole certificate walked =
    (certificate_elements walked.slices ≡ certificate_spellings certificate)
    × (walked.not_before ≡ certificate.tbs_certificate.validity.not_before)
    × (walked.not_after ≡ certificate.tbs_certificate.validity.not_after)
