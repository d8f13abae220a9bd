use Rattle.std.proofs.Common.{ap}
use Rattle.x509_check.proofs.LentCertificates.{elements_are}
use Rattle.x509_check.proofs.lent.certificate.CertificateRef.version.Goals as goal

pub returns : goal.returns
returns g c = λ certificate spells. c.version_of.ensures _ (ap (λ e. e.fields.version) (elements_are g.P.Profile.serial_check c.args.self.now.bytes.now c.args.self.now.slices c.args.self.now.elements certificate spells))
