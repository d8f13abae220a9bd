use Rattle.std.proofs.Common.{IfOk, subst}
use Rattle.x509_match.proofs.Fronts.{set_read}
use Rattle.x509_match.specs.NameKeys.{IsRdnKey}
use Rattle.x509_match.proofs.lent.rdn_key.Goals as goal

pub returns-in-Ok : goal.returns-in-Ok
returns-in-Ok c = λ xs good is. subst (λ z. IfOk c.new.result (λ key. IsRdnKey key z)) (set_read _ xs _ good is c.in-Ok.ensures.exact) c.new.ensures
