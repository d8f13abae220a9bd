use Rattle.std.proofs.lemmas.Result.{IfOk-weaker}
use Rattle.x509_constraints.proofs.Merges.{union_answers}
use Rattle.x509_constraints.proofs.prefixes.Prefixes.union.Goals as goal

pub returns : goal.returns
returns c = IfOk-weaker _ _ _ (λ set answers. union_answers _ _ _ _ set c.self.view_is c.other.view_is answers) c.swept.ensures
