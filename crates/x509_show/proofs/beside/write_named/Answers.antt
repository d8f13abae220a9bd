use Rattle.std.proofs.Common.{Ok}
use Rattle.x509_show.proofs.beside.write_named.Goals as goal

pub returns-in-Ok : goal.returns-in-Ok
returns-in-Ok g c = (Ok c.in-Ok.bytes.items, c.in-Ok.ensures, rw c.as_slice.ensures.value at c.write_certificate.ensures)
