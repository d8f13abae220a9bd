use Rattle.x509_der.specs.OutcomeLaws.{gives_only, gives_value}
use Rattle.x509_der.specs.SpellingLaws.{read_value}
use Rattle.x509_der.proofs.any.Any.decode_as.Goals as goal

pub returns-clause-only : goal.returns-clause-only
returns-clause-only g c = λ v good is.
    gives_only _ c.read.result _ v (rw (c.octet.ensures.octet, c.as_slice.ensures) at c.read.ensures.exact) c.read.ensures.memory (read_value g.T.Grammar.form g.met.T.Grammar.lawful _ _ v good is)

pub returns-clause-value : goal.returns-clause-value
returns-clause-value g c = λ v good is.
    gives_value c.read.result _ v (rw (c.octet.ensures.octet, c.as_slice.ensures) at c.read.ensures.exact) (read_value g.T.Grammar.form g.met.T.Grammar.lawful _ _ v good is)
