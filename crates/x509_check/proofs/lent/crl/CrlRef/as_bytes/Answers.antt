use Rattle.x509_check.proofs.LentCrls.{some_crl}
use Rattle.x509_check.proofs.lent.crl.CrlRef.as_bytes.Goals as goal

pub returns-clause-found : goal.returns-clause-found
returns-clause-found g c = some_crl g.P.Profile.serial_check c.args.self.now.bytes.now c.args.self.now.parts c.args.self.now.lent c.args.self.now.within
