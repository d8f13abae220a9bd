use Rattle.std.proofs.Common.{Some}
use Rattle.x509_c_calls.proofs.path.validate.constraints_of.Goals as goal

pub returns-in-Ok : goal.returns-in-Ok
returns-in-Ok c = (Some c.in-Ok.ensures.found.0, c.in-Ok.ensures.found.1, c.in-Ok.ensures.found.1)
