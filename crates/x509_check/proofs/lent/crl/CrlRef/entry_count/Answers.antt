use Rattle.std.proofs.Common.{ap}
use Rattle.x509_check.proofs.LentCrls.{parts_are}
use Rattle.x509_check.proofs.lent.crl.CrlRef.entry_count.Goals as goal

pub returns : goal.returns
returns g c = λ list spells. ap (λ e. e.fields.entry_count) (parts_are g.P.Profile.serial_check c.args.self.now.bytes.now c.args.self.now.parts c.args.self.now.lent list spells)
