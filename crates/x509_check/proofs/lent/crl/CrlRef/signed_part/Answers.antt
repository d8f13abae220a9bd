use Rattle.std.proofs.Common.{ap}
use Rattle.x509_check.proofs.LentCrls.{is_signed, part_spells, parts_are, some_crl}
use Rattle.x509_check.proofs.lent.crl.CrlRef.signed_part.Goals as goal

pub returns-clause-signed : goal.returns-clause-signed
returns-clause-signed g c =
    let v = some_crl g.P.Profile.serial_check c.args.self.now.bytes.now c.args.self.now.parts c.args.self.now.lent c.args.self.now.within in
    is_signed g.P.Profile.serial_check c.args.self.now.bytes.now v.0 v.1 _ (ap (λ e. e.tbs_cert_list) (parts_are g.P.Profile.serial_check c.args.self.now.bytes.now c.args.self.now.parts c.args.self.now.lent v.0 v.1))

pub returns-clause-part : goal.returns-clause-part
returns-clause-part g c = λ list spells. part_spells g.P.Profile.serial_check c.args.self.now.bytes.now list spells _ (ap (λ e. e.tbs_cert_list) (parts_are g.P.Profile.serial_check c.args.self.now.bytes.now c.args.self.now.parts c.args.self.now.lent list spells))
