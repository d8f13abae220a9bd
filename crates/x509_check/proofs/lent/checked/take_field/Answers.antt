use Rattle.x509_check.proofs.LentFields.{front_is}
use Rattle.x509_check.proofs.lent.checked.take_field.Goals as goal

pub returns-clause-exact : goal.returns-clause-exact
returns-clause-exact g c = let read = c.in_ok-check_field.ensures.exact in (read.0, read.1, front_is g.T.Grammar.form g.met.T.Grammar.lawful _ _ read.0 read.1)
