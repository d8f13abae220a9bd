use Rattle.x509_check.proofs.Checks.{found}
use Rattle.x509_check.proofs.check.pass_whole.Goals as goal

pub returns : goal.returns
returns g c = found c.check_whole.result _ c.check_whole.ensures
