use Rattle.std.proofs.Common.{◌∙◌, ap}
use Rattle.x509_path.specs.Lent.{lent_extensions}
use Rattle.x509_path.proofs.extensions.lend_all.Goals as goal

pub returns-in-Some-clause-ok : goal.returns-in-Some-clause-ok
returns-in-Some-clause-ok c = ap lent_extensions c.front.ensures ∙ c.in-Some.ensures.few.1
