use Rattle.std.proofs.Common.{refl}
use Rattle.x509_tool_run.specs.Answer.{usage}
use Rattle.x509_tool_run.proofs.program.tell_of_itself.Goals as goal

pub returns-in-None-clause-usage : goal.returns-in-None-clause-usage
returns-in-None-clause-usage g c none = c.say.ensures usage refl
