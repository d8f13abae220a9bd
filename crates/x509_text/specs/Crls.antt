-- Lines of CRLs (RFC 5280 5.1).
use Rattle.std.specs.Prelude.{ℕ, List, ◌++◌, Option, Some, None, codes}
use Rattle.std.specs.List.{flat_map}
use Rattle.x509_base.specs.declared.time.Time.{Time}
use Rattle.x509_cert.specs.declared.certificate.version.Version.{Version}
use Rattle.x509_cert.specs.declared.crl.certificate_list.CertificateList.{CertificateList}
use Rattle.x509_cert.specs.declared.crl.revoked_cert.RevokedCert.{RevokedCert}
use Rattle.x509_cert.specs.declared.crl.tbs_cert_list.TbsCertList.{TbsCertList}
use Rattle.x509_cert.specs.Revoked.{entries}
use Rattle.x509_text.specs.declared.line.Place.{Place}
use Rattle.x509_text.specs.Algorithms.{algorithm_lines}
use Rattle.x509_text.specs.Certificates as certificates
use Rattle.x509_text.specs.Certificates.{time_line}
use Rattle.x509_text.specs.Extensions.{optional_extensions}
use Rattle.x509_text.specs.Lines.{line, below}
use Rattle.x509_text.specs.Payloads.{optional}
use Rattle.x509_text.specs.Values.{bits_lines, name_line, serial_line}

-- a CRL without a version is one of version 1 (RFC 5280 5.1.2.1)
abbrev pub version_text : Option Version → List ℕ
version_text None = codes "v1"
version_text (Some version) = certificates.version_text version

abbrev pub optional_time : Place → List ℕ → Option Time → List ℕ
optional_time at label time = optional (time_line at label) time

-- from when on it holds, and when the next one comes
unfoldable pub update_lines : {P : Type 0} → Place → TbsCertList P → List ℕ
update_lines at part = time_line at (codes "this update") part.this_update ++ optional_time at (codes "next update") part.next_update

-- the version, the algorithm of the signature, the issuer, the dates
unfoldable pub head_lines : {P : Type 0} → Place → TbsCertList P → List ℕ
head_lines at part =
    line at (codes "version") (version_text part.version)
    ++ (algorithm_lines at (codes "algorithm") part.signature
    ++ (name_line at (codes "issuer") part.issuer
    ++ update_lines at part))

-- an entry: the serial number of a certificate, and what belongs to it (RFC 5280 5.1.2.6)
unfoldable pub entry_lines : {P : Type 0} → Place → RevokedCert P → List ℕ
entry_lines at entry =
    serial_line at (codes "revoked") entry.serial_number
    ++ (time_line (below at) (codes "revocation date") entry.revocation_date
    ++ optional_extensions (below at) entry.crl_entry_extensions)

-- A TBSCertList (RFC 5280 5.1.2). The extensions, which say what the CRL covers, stand in front of the entries.
unfoldable pub part_lines : {P : Type 0} → Place → TbsCertList P → List ℕ
part_lines at part =
    head_lines at part
    ++ (optional_extensions at part.crl_extensions
    ++ flat_map (entry_lines at) (entries part.revoked_certificates))

-- the algorithm of the signature, and the signature
unfoldable pub signature_lines : {P : Type 0} → Place → CertificateList P → List ℕ
signature_lines at crl = algorithm_lines at (codes "signature algorithm") crl.signature_algorithm ++ bits_lines at (codes "signature") crl.signature

-- a CRL (RFC 5280 5.1.1)
unfoldable pub crl_lines : {P : Type 0} → Place → CertificateList P → List ℕ
crl_lines at crl = part_lines at crl.tbs_cert_list ++ signature_lines at crl
