use Rattle.x509_constraints.proofs.Keys.{begins-pointwise}
use Rattle.x509_constraints.proofs.key.Key.begins_with.Goals as goal

pub returns : goal.returns
returns c = let e = begins-pointwise c.args.self.now c.args.other.now in cc
