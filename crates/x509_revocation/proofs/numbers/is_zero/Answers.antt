use Rattle.std.proofs.Common.{sym, ◌∙◌}
use Rattle.x509_revocation.proofs.Digits.{not_zero}
use Rattle.x509_revocation.proofs.numbers.is_zero.Goals as goal

pub returns-then-octet-ne0 : goal.returns-then-octet-ne0
returns-then-octet-ne0 c = ((λ never. absurd cc), (λ zero. absurd (not_zero c.loop-rest.rest.now c.in-len1-up.len_at_least c.if-octet-ne0.true (sym c.loop-rest.invariant ∙ zero))))
