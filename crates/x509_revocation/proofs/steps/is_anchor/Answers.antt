use Rattle.x509_revocation.proofs.steps.is_anchor.Goals as goal

pub returns-then-is_name : goal.returns-then-is_name
returns-then-is_name c = (
  (λ is. let found = c.is_name.ensures.0 c.if-is_name.true in let key = c.is_key.ensures.0 is in (record { name = found.0; key = key.0 }, (found.1, key.1))),
  (λ (anchor, lends). c.is_key.ensures.1 (anchor.key, lends.1)),
)
