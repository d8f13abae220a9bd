use Rattle.std.proofs.Common.{ap}
use Rattle.x509_check.proofs.LentCertificates.{elements_are}
use Rattle.x509_check.proofs.lent.certificate.CertificateRef.subject_public_key_info.Goals as goal

pub returns : goal.returns
returns g c = λ certificate spells. ap (λ e. e.fields.subject_public_key_info) (elements_are g.P.Profile.serial_check c.args.self.now.bytes.now c.args.self.now.slices c.args.self.now.elements certificate spells)
