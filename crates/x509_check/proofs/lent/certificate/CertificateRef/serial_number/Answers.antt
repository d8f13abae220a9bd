use Rattle.std.proofs.Common.{ap}
use Rattle.x509_check.proofs.LentCertificates.{elements_are}
use Rattle.x509_der.specs.TagLaws.{tag_is_identifier}
use Rattle.x509_der.specs.declared.tag.Tag.TheVariants as tags
use Rattle.x509_check.proofs.lent.certificate.CertificateRef.serial_number.Goals as goal

pub returns : goal.returns
returns g c = λ certificate spells. c.content_of.ensures 2 certificate.tbs_certificate.serial_number (tag_is_identifier tags.Integer) (ap (λ e. e.fields.serial_number) (elements_are g.P.Profile.serial_check c.args.self.now.bytes.now c.args.self.now.slices c.args.self.now.elements certificate spells))
