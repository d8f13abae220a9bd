use Rattle.std.proofs.Common.{refl}
use Rattle.x509_tool_run.specs.Information.{help}
use Rattle.x509_tool_run.proofs.information.tell.Goals as goal

pub returns-in-Help : goal.returns-in-Help
returns-in-Help g c = rw c.in-Help.is (c.say.ensures help refl)
