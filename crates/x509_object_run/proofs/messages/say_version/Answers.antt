use Rattle.std.proofs.Common.{append_assoc}
use Rattle.x509_object_run.proofs.messages.say_version.Goals as goal

pub returns : goal.returns
returns g c = rw append_assoc (rw (c.name.ensures, c.as_bytes.ensures.value) at c.say.ensures)
