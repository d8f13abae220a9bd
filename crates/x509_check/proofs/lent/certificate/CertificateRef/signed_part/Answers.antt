use Rattle.x509_check.proofs.LentCertificates.{part_is, signed_is}
use Rattle.x509_check.proofs.lent.certificate.CertificateRef.signed_part.Goals as goal

pub returns-clause-signed : goal.returns-clause-signed
returns-clause-signed g c = signed_is c.args.self.now.bytes.now c.args.self.now.slices c.args.self.now.elements c.args.self.now.within

pub returns-clause-part : goal.returns-clause-part
returns-clause-part g c = part_is g.P.Profile.serial_check c.args.self.now.bytes.now c.args.self.now.slices c.args.self.now.elements
