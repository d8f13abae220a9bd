use Rattle.std.proofs.Common.{◌≡◌, ◌∷◌, ◌++◌, [], List, ℕ, sym, ap, subst, ◌∙◌}
use Rattle.std.proofs.lemmas.List.{append_cancel_right}
use Rattle.std.specs.Net.Grammar.{IsIpv6Text}
use Rattle.x509_peer.proofs.address.parse_bracketed.Goals as goal

pub returns-in-Err : goal.returns-in-Err
returns-in-Err c = λ octets w.
    let same : w.0 ++ 0x5D ∷ [] ≡ c.in_ok-inner.inner.now ++ 0x5D ∷ [] = let e = sym w.2 ∙ c.in_ok-inner.ensures in cc in
    let inner = append_cancel_right w.0 c.in_ok-inner.inner.now (0x5D ∷ []) same in
    c.in-Err.ensures w.1 (subst (λ t. IsIpv6Text t w.1) inner w.3)
