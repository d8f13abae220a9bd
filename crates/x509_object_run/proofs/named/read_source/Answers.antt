use Rattle.std.proofs.Common.{refl}
use Rattle.x509_tool_run.specs.Input.{Whole}
use Rattle.x509_object_run.proofs.named.read_source.Goals as goal

pub returns-in-Err-object_bytes : goal.returns-in-Err-object_bytes
returns-in-Err-object_bytes g c = (Whole c.in-Ok.input.items, c.in-Ok.ensures, refl)
