use Rattle.std.proofs.lemmas.Result.{IfOk-weaker}
use Rattle.x509_constraints.proofs.Sweep.{same_set}
use Rattle.x509_constraints.proofs.prefixes.Prefixes.new.Goals as goal

pub returns : goal.returns
returns c = IfOk-weaker _ _ _ (same_set _ _ c.in_ok-sort.ensures.permutation) c.shortest.ensures
