use Rattle.std.proofs.Common.{refl}
use Rattle.x509_c_calls.proofs.payloads.walk.step_content.Goals as goal

pub returns-clause-stands : goal.returns-clause-stands
returns-clause-stands c = λ tag content more is e. ((c.enter-content.ensures.stands tag content more is e).0, (c.step.ensures.stands _ more (tag, content, is, refl) e).1)
