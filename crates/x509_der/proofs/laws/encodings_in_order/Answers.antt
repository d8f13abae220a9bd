use Rattle.x509_der.specs.Writing.{writes}
use Rattle.x509_der.specs.Ordered.{der_lawful}
use Rattle.x509_der.proofs.laws.encodings_in_order.Goals as goal

pub returns : goal.returns
returns g c v w a b p q e f = rw (p.1, q.1) ((der_lawful g.T.Grammar.form (writes g.T.Encode.writing) g.T.ValueOrd.order g.met.T.ValueOrd.ordered).agrees v w (p.0, e, rw p.1 at p.2) (q.0, f, rw q.1 at q.2))
