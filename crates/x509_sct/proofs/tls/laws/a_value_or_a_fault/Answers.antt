use Rattle.x509_sct.specs.Uniqueness.{value_or_fault}
use Rattle.x509_sct.proofs.tls.laws.a_value_or_a_fault.Goals as goal

pub returns : goal.returns
returns g c = value_or_fault g.T.Tls.form g.met.T.Tls.lawful
