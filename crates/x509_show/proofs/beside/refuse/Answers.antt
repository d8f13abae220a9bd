use Rattle.std.proofs.Common.{inl, inr, refl}
use Rattle.x509_show.proofs.beside.refuse.Goals as goal

pub returns-in-Ok : goal.returns-in-Ok
returns-in-Ok g c = (inl (rw (c.as_bytes.ensures.value, c.as_str.ensures.value, c.in-Ok.ensures) at c.tell_of_input.ensures), refl)
