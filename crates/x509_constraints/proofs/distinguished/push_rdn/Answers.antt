use Rattle.std.proofs.lemmas.Result.{on_ok_weaker}
use Rattle.x509_constraints.proofs.InOrder.{rdn_done}
use Rattle.x509_constraints.proofs.distinguished.push_rdn.Goals as goal

pub returns : goal.returns
returns c =
    let pushed = rw c.as_slice.ensures.value at c.in_ok-push_attributes.ensures in
    on_ok_weaker _ (rdn_done (λ v. v.items) _ _ _ _ _ pushed c.in_ok-attributes.ensures) c.push.ensures
