use Rattle.x509_cert.specs.SignedLaws.{front_is_signed}
use Rattle.x509_cert.proofs.signed.laws.what_stands_in_front_is_signed.Goals as goal

pub returns : goal.returns
returns g c = front_is_signed g.T.Grammar.form g.S.Grammar.form
