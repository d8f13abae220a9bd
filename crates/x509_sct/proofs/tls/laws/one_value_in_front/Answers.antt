use Rattle.x509_sct.specs.Uniqueness.{one_front}
use Rattle.x509_sct.proofs.tls.laws.one_value_in_front.Goals as goal

pub returns : goal.returns
returns g c = one_front g.T.Tls.form g.met.T.Tls.lawful
