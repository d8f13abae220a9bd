use Rattle.std.proofs.Common.{◌++◌, refl}
use Rattle.x509_object_run.specs.Object.{heading_text}
use Rattle.x509_show.proofs.show.write_whole.Goals as goal

pub returns-in-Err : goal.returns-in-Err
returns-in-Err g c = (heading_text c.args.heading ++ c.args.document.now, 0, (refl, refl), rw c.as_bytes.ensures.value at c.in-Err.ensures.err)
