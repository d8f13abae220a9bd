-- Whether the name is the issuer of the entry that was passed last, and what is answered behind that entry is the answer.
use Rattle.std.proofs.Common.{◌≡◌, List, Option, length}
use Rattle.x509_cert.proofs.Issuing.{Stays}
use Rattle.x509_cert.specs.Issuers.{is_issued, is_issuer}
use Rattle.x509_cert.specs.Revoked.{entries}
use Rattle.x509_ext.specs.declared.pkix.name.general_name.GeneralName.{GeneralName}
use Rattle.x509_cert.proofs.crl.certificate_list.CertificateList.find_issued.Given as goal

abbrev pub invariant-loop-first : goal.invariant-loop-first
invariant-loop-first g l =
    (preceding : Option (List GeneralName))
    × (l.is_issuer ≡ is_issuer l.self.tbs_cert_list.issuer l.issuer preceding)
    × Stays (is_issued l.self.tbs_cert_list.issuer l.issuer l.serial_number) preceding l.rest (entries l.self.tbs_cert_list.revoked_certificates)

abbrev pub decreases-loop-first : goal.decreases-loop-first
decreases-loop-first g l = length l.rest
