use Rattle.std.proofs.Common.{◌∙◌}
use Rattle.x509_c_lint.proofs.FindingPlaces.{front-differs}
use Rattle.x509_c_lint.proofs.finding.behind_front.Goals as goal

pub returns-else-eq : goal.returns-else-eq
returns-else-eq c = λ more e. front-differs _ _ _ _ c.split_at-2.ensures.front c.eq.ensures c.if-eq.false more (c.split_at.ensures.back ∙ e)
