use Rattle.x509_match.proofs.Fronts.{front_is, no_front, front_shorter}
use Rattle.x509_match.proofs.lent.front_content.Goals as goal

pub returns-in-Ok-clause-front : goal.returns-in-Ok-clause-front
returns-in-Ok-clause-front c = λ tag content rest id e. let f = front_is _ _ tag content rest c.in-Ok.ensures.exact id e in (f.1, f.2)

pub returns-in-Ok-clause-shorter : goal.returns-in-Ok-clause-shorter
returns-in-Ok-clause-shorter c = λ some. front_shorter _ _ c.in-Ok.ensures.exact

pub returns-in-Err-clause-front : goal.returns-in-Err-clause-front
returns-in-Err-clause-front c = λ tag content rest id e. absurd (no_front _ tag content rest _ c.in-Err.ensures.exact c.in-Err.ensures.err id e)
