use Rattle.std.proofs.Common.{None, refl}
use Rattle.x509_path_steps.proofs.Readables.{spelled, spelled_back}
use Rattle.x509_path_steps.proofs.readable.is_encoding_if_any.Goals as goal

pub returns-in-Some : goal.returns-in-Some
returns-in-Some g c = rw c.in-Some.is (
  (λ yes. spelled g.T.Grammar.form c.in-Some.octets (c.is_encoding.ensures.0 yes)),
  (λ h. c.is_encoding.ensures.1 (spelled_back g.T.Grammar.form c.in-Some.octets h)),
)

pub returns-in-None : goal.returns-in-None
returns-in-None g c = rw c.in-None.is ((λ yes. (None, refl)), (λ h. refl))
