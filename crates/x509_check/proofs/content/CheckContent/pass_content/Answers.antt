use Rattle.x509_check.proofs.Checks.{found}
use Rattle.x509_check.proofs.content.CheckContent.pass_content.Goals as goal

pub returns : goal.returns
returns g c = found c.check_content.result _ c.check_content.ensures
