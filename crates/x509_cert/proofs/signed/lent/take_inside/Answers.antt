use Rattle.x509_cert.proofs.Fronts.{taken_inside}
use Rattle.x509_cert.proofs.signed.lent.take_inside.Goals as goal

pub returns-clause-exact : goal.returns-clause-exact
returns-clause-exact c = taken_inside _ _ c.in_ok-piece.ensures.exact _ _ _ c.if-piece-n.false c.in_ok-content_of.ensures.exact
