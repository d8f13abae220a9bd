use Rattle.x509_path_steps.proofs.Sequences.{none_refused, read_first}
use Rattle.x509_path_steps.proofs.oids.first_content.Goals as goal

pub returns-in-Ok : goal.returns-in-Ok
returns-in-Ok c = λ tag content rest identifier is. read_first c.args.bytes.now tag content rest identifier is _ c.in-Ok.ensures.exact

pub returns-in-Err : goal.returns-in-Err
returns-in-Err c = λ tag content rest identifier is. absurd (none_refused c.args.bytes.now tag content rest identifier is _ c.in-Err.ensures.err c.in-Err.ensures.exact)
