use Rattle.std.proofs.Common.{ap, not}
use Rattle.x509_check.proofs.LentCrls.{parts_are}
use Rattle.x509_check.proofs.lent.crl.CrlRef.has_plain_entries.Goals as goal

pub returns : goal.returns
returns g c = λ list spells. ap (λ e. not e.fields.has_marked) (parts_are g.P.Profile.serial_check c.args.self.now.bytes.now c.args.self.now.parts c.args.self.now.lent list spells)
