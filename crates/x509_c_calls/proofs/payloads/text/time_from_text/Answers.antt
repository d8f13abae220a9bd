use Rattle.std.proofs.Common.{refl}
use Rattle.x509_c_calls.proofs.Moments.{no_moment, no_text}
use Rattle.x509_c_calls.proofs.payloads.text.time_from_text.Goals as goal
use Rattle.x509_c_calls.specs.Texts.{ReadsMoment}

pub returns-in_default : goal.returns-in_default
unfolding ReadsMoment
returns-in_default c = (refl, no_moment _ (no_text _ c.in_default.ensures), refl)
