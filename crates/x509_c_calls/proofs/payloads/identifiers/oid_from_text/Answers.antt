use Rattle.std.proofs.Common.{refl, inr}
use Rattle.x509_c_calls.proofs.Texts.{no_text}
use Rattle.x509_c_calls.proofs.payloads.identifiers.oid_from_text.Goals as goal
use Rattle.x509_c_calls.specs.Status.{Fills}

pub returns-in_default-clause-filled : goal.returns-in_default-clause-filled
unfolding Fills
returns-in_default-clause-filled c = (inr (refl, no_text _ c.in_default.ensures.cases.0), refl)
