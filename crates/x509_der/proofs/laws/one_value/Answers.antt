use Rattle.x509_der.specs.SpellingLaws.{values}
use Rattle.x509_der.proofs.laws.one_value.Goals as goal

pub returns : goal.returns
returns g c = values g.T.Grammar.form g.met.T.Grammar.lawful
