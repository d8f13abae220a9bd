use Rattle.x509_match.proofs.Values.{bmp_owned, bmp_refused}
use Rattle.x509_match.proofs.value.bmp_text.Goals as goal

pub returns-in-Ok-to_text : goal.returns-in-Ok-to_text
returns-in-Ok-to_text c = bmp_owned _ _ _ c.in-Ok.ensures.exact c.in-Ok-to_text.ensures.ok

pub returns-in-Malformed : goal.returns-in-Malformed
returns-in-Malformed c = bmp_refused _ (let k = rw (← c.in-Malformed.ensures) at c.in-Err.ensures.exact in k)
