use Rattle.std.proofs.Common.{refl}
use Rattle.x509_object_run.specs.Program.{outputs}
use Rattle.x509_object_run.proofs.lines.stop.Goals as goal

pub returns : goal.returns
returns g c = λ items first told.
    (outputs c.flush.new.writer c.flush.new.errors, c.flush.new.shown.worst, (c.flush.ensures items first told).1, c.refuse.ensures, refl)
