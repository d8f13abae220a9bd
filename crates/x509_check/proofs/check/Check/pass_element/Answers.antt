use Rattle.x509_check.proofs.Checks.{found}
use Rattle.x509_check.proofs.check.Check.pass_element.Goals as goal

pub returns : goal.returns
returns g c = found c.check_element.result _ c.check_element.ensures
