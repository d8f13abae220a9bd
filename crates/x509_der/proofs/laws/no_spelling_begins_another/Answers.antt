use Rattle.x509_der.specs.SpellingLaws.{spellings}
use Rattle.x509_der.proofs.laws.no_spelling_begins_another.Goals as goal

pub returns : goal.returns
returns g c = spellings g.T.Grammar.form g.U.Grammar.form
