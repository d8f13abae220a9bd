-- Lines of certificates (RFC 5280 4.1).
use Rattle.std.specs.Prelude.{ℕ, List, ◌++◌, codes}
use Rattle.x509_base.specs.Time.{date_time_of}
use Rattle.x509_base.specs.declared.time.Time.{Time}
use Rattle.x509_base.specs.declared.validity.Validity.{Validity}
use Rattle.x509_cert.specs.declared.certificate.certificate.CertificateInner.{CertificateInner}
use Rattle.x509_cert.specs.declared.certificate.tbs_certificate.TbsCertificateInner.{TbsCertificateInner}
use Rattle.x509_cert.specs.declared.certificate.version.Version.{Version}
use Rattle.x509_cert.specs.declared.certificate.version.Version.TheVariants.{V1, V2, V3}
use Rattle.x509_text.specs.declared.line.Place.{Place}
use Rattle.x509_text.specs.Algorithms.{algorithm_lines, key_lines}
use Rattle.x509_text.specs.Extensions.{optional_extensions}
use Rattle.x509_text.specs.Lines.{line}
use Rattle.x509_text.specs.Values.{bits_lines, moment_line, name_line, optional_bits, serial_line}

abbrev pub version_text : Version → List ℕ
version_text V1 = codes "v1"
version_text V2 = codes "v2"
version_text V3 = codes "v3"

abbrev pub time_line : Place → List ℕ → Time → List ℕ
time_line at label time = moment_line at label (date_time_of time)

unfoldable pub validity_lines : {P : Type 0} → Place → Validity P → List ℕ
validity_lines at validity = time_line at (codes "not before") validity.not_before ++ time_line at (codes "not after") validity.not_after

-- the version, the serial number, the algorithm of the signature, the issuer, the dates, the subject
unfoldable pub head_lines : {P : Type 0} → Place → TbsCertificateInner P → List ℕ
head_lines at part =
    line at (codes "version") (version_text part.version)
    ++ (serial_line at (codes "serial") part.serial_number
    ++ (algorithm_lines at (codes "algorithm") part.signature
    ++ (name_line at (codes "issuer") part.issuer
    ++ (validity_lines at part.validity
    ++ name_line at (codes "subject") part.subject))))

-- a TBSCertificate (RFC 5280 4.1.2)
unfoldable pub part_lines : {P : Type 0} → Place → TbsCertificateInner P → List ℕ
part_lines at part =
    head_lines at part
    ++ (key_lines at part.subject_public_key_info
    ++ (optional_bits at (codes "issuer unique ID") part.issuer_unique_id
    ++ (optional_bits at (codes "subject unique ID") part.subject_unique_id
    ++ optional_extensions at part.extensions)))

-- a certificate (RFC 5280 4.1.1)
unfoldable pub certificate_lines : {P : Type 0} → Place → CertificateInner P → List ℕ
certificate_lines at c =
    part_lines at c.tbs_certificate
    ++ (algorithm_lines at (codes "signature algorithm") c.signature_algorithm ++ bits_lines at (codes "signature") c.signature)
