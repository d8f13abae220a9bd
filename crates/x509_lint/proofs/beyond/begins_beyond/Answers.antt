use Rattle.std.proofs.Common.{refl}
use Rattle.x509_lint.proofs.beyond.begins_beyond.Goals as goal

pub returns-in-Ok : goal.returns-in-Ok
returns-in-Ok c = rw c.in-Ok.ensures.exact c.is_beyond.ensures

pub returns-in-Err : goal.returns-in-Err
returns-in-Err c = rw (rw c.in-Err.ensures.err at c.in-Err.ensures.exact) refl
