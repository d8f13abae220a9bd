use Rattle.std.proofs.Common.{sym}
use Rattle.x509_linter.proofs.Moment.{read, unread}
use Rattle.x509_linter.proofs.linter.date_time_named.Goals as goal

pub returns-in-Ok : goal.returns-in-Ok
returns-in-Ok c = sym (read _ _ c.in-Ok.ensures)

pub returns-in-Err : goal.returns-in-Err
returns-in-Err c = sym (unread _ _ c.in-Err.ensures)
