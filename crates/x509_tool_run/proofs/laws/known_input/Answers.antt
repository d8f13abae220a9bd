use Rattle.x509_tool_run.proofs.Known.{whole-known, too_long-known}
use Rattle.x509_tool_run.proofs.laws.known_input.Goals as goal

pub returns-clause-whole : goal.returns-clause-whole
returns-clause-whole g c from to known bytes is h = whole-known g.R.Read.remaining from to known bytes is h

pub returns-clause-too_long : goal.returns-clause-too_long
returns-clause-too_long g c from to known is h = too_long-known g.R.Read.remaining from to known is h
