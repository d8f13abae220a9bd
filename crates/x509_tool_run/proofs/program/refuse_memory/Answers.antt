use Rattle.std.proofs.Common.{Err}
use Rattle.x509_der.specs.declared.error.ErrorKind.TheVariants.{Memory}
use Rattle.x509_tool_run.specs.declared.refusal.Refusal.TheVariants.{Because}
use Rattle.x509_tool_run.specs.Answer.{text_of}
use Rattle.x509_tool_run.proofs.program.refuse_memory.Goals as goal

pub returns : goal.returns
returns g c = c.say.ensures (text_of (Err (Because Memory))) c.line.ensures
