use Rattle.std.proofs.Common.{None, refl}
use Rattle.x509_path_steps.proofs.above.Above.new.Goals as goal

pub returns-clause-key : goal.returns-clause-key
returns-clause-key c = λ key spells. record { own = key; inherited = None; spells = spells; lends = refl; are_given = refl; is = refl }
