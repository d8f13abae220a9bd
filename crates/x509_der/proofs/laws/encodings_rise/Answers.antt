use Rattle.std.proofs.lemmas.List.Elements.{recursion_from_All}
use Rattle.x509_der.specs.Writing.{writes}
use Rattle.x509_der.specs.Ordered.{der_lawful}
use Rattle.x509_der.proofs.OneSet.{texts_rise}
use Rattle.x509_der.proofs.laws.encodings_rise.Goals as goal

pub returns : goal.returns
returns g c members s has =
    texts_rise (der_lawful g.T.Grammar.form (writes g.T.Encode.writing) g.T.ValueOrd.order g.met.T.ValueOrd.ordered) members (recursion_from_All _ members has) s
