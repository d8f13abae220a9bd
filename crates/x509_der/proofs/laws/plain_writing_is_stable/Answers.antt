use Rattle.std.proofs.Common.{subst, sym}
use Rattle.x509_der.specs.StableLaws.{plain_stable}
use Rattle.x509_der.specs.Writing.{IsStable}
use Rattle.x509_der.proofs.laws.plain_writing_is_stable.Goals as goal

pub returns : goal.returns
returns g c = λ as_it_is. subst (IsStable g.T.Grammar.form.good) (sym as_it_is) plain_stable
