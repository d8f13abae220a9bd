use Rattle.std.proofs.Common.{◌∙◌, sym}
use Rattle.x509_match.proofs.KeysAgree.{rdn_keys_match}
use Rattle.x509_match.proofs.lent.keys_match.Goals as goal

pub returns : goal.returns
returns c = λ xs ys gx gy p q.
    let k = rdn_keys_match _ _ _ _ (c.in_ok-left.ensures xs gx p) (c.in_ok-right.ensures ys gy q) in
    (λ t. k.0 (sym c.eq.ensures ∙ t), λ h. c.eq.ensures ∙ k.1 h)
