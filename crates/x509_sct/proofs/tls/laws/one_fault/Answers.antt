use Rattle.x509_sct.specs.Uniqueness.{no_fault_in_front, one_fault}
use Rattle.x509_sct.proofs.tls.laws.one_fault.Goals as goal

pub returns : goal.returns
returns g c = record {
  none = no_fault_in_front g.T.Tls.form g.met.T.Tls.lawful;
  one = one_fault g.T.Tls.form g.met.T.Tls.lawful;
}
