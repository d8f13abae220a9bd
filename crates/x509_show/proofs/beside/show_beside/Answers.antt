use Rattle.std.proofs.Common.{Ok}
use Rattle.x509_show.proofs.beside.show_beside.Goals as goal

pub returns-in-Ok : goal.returns-in-Ok
returns-in-Ok g c = (c.read_named.new.reader, Ok c.in-Ok.above.items, c.in-Ok.ensures, rw c.as_slice.ensures.value at c.show_below.ensures)
