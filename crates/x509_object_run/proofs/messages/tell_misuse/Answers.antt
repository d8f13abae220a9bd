use Rattle.std.proofs.Common.{append_assoc, append-nil}
use Rattle.x509_object_run.proofs.messages.tell_misuse.Goals as goal

pub returns : goal.returns
returns g c = rw (append_assoc, append_assoc) (rw (c.as_bytes.ensures.value, append-nil c.args.usage.now) at c.tell_texts.ensures)
