use Rattle.x509_check.proofs.LentCertificates.{some_certificate}
use Rattle.x509_check.proofs.lent.certificate.CertificateRef.as_bytes.Goals as goal

pub returns-clause-found : goal.returns-clause-found
returns-clause-found g c = some_certificate g.P.Profile.serial_check c.args.self.now.bytes.now c.args.self.now.within c.args.self.now.checked
