use Rattle.x509_der.specs.Writing.{writes}
use Rattle.x509_der.specs.Ordered.{der_lawful}
use Rattle.x509_der.proofs.laws.orders_are_total.Goals as goal

pub returns-clause-encodings : goal.returns-clause-encodings
returns-clause-encodings g c = (der_lawful g.T.Grammar.form (writes g.T.Encode.writing) g.T.ValueOrd.order g.met.T.ValueOrd.ordered).total
