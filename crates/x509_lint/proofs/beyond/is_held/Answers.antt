use Rattle.x509_lint.proofs.LargeOids.{held, unheld}
use Rattle.x509_lint.proofs.beyond.is_held.Goals as goal

pub returns-in-Ok : goal.returns-in-Ok
returns-in-Ok c = held _ _ _ c.in-Ok.ensures.exact

pub returns-in-Err : goal.returns-in-Err
returns-in-Err c = unheld _ _ (rw c.in-Err.ensures.err at c.in-Err.ensures.exact)
