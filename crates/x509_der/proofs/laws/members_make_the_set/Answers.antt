use Rattle.x509_der.specs.Writing.{writes}
use Rattle.x509_der.specs.Ordered.{der_lawful}
use Rattle.x509_der.proofs.OneSet.{one_set}
use Rattle.x509_der.proofs.laws.members_make_the_set.Goals as goal

pub returns : goal.returns
returns g c a b s t p =
    let lawful = der_lawful g.T.Grammar.form (writes g.T.Encode.writing) g.T.ValueOrd.order g.met.T.ValueOrd.ordered in
    one_set lawful.total lawful.exact a b s t p
