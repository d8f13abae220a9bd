use Rattle.x509_c_calls.proofs.PayloadBits.{behind_first, no_bits}
use Rattle.x509_c_calls.proofs.payloads.walk.bits_at.Goals as goal

pub returns-then-content-eq0 : goal.returns-then-content-eq0
returns-then-content-eq0 c = λ tag unused octets more is e. no_bits _ _ _ _ _ (c.content_at-content.ensures.stands tag _ more is e) c.if-content-eq0.true

pub returns : goal.returns
returns c = λ tag unused octets more is e. behind_first _ _ _ _ _ (c.content_at-content.ensures.stands tag _ more is e)
