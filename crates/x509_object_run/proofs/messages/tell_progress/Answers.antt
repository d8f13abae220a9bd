use Rattle.std.proofs.Common.{inl}
use Rattle.x509_object_run.proofs.messages.tell_progress.Goals as goal

pub returns-in-Ok : goal.returns-in-Ok
returns-in-Ok g c = inl (rw (c.name.ensures, c.as_bytes.ensures.value, c.as_str.ensures.value, c.in-Ok.ensures) at c.tell_texts.ensures)
