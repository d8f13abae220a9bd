use Rattle.x509_cert.proofs.Fronts.{rest_fits, taken}
use Rattle.x509_cert.proofs.signed.lent.take.Goals as goal

pub slice_bounds-result-count : goal.slice_bounds-result-count
slice_bounds-result-count c = rest_fits _ _ c.in_ok-piece.ensures.exact

pub returns-clause-exact : goal.returns-clause-exact
returns-clause-exact c = taken _ _ c.in_ok-piece.ensures.exact _ c.if-piece-tag.false
