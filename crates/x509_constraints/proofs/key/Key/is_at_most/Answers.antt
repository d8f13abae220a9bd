use Rattle.std.proofs.Common.{◌∙◌}
use Rattle.x509_constraints.proofs.Keys.{is_upto}
use Rattle.x509_constraints.proofs.key.Key.is_at_most.Goals as goal

pub returns : goal.returns
returns c = c.is_le.ensures ∙ is_upto c.args.self.now c.args.other.now c.cmp.result c.cmp.ensures
