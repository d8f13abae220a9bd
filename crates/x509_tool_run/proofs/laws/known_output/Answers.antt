use Rattle.x509_tool_run.proofs.Known.{written-known}
use Rattle.x509_tool_run.proofs.laws.known_output.Goals as goal

pub returns : goal.returns
returns g c from to known text is h = written-known g.W.Write.contents from to known text is h
