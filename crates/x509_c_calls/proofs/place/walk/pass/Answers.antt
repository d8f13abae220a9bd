use Rattle.x509_c_calls.proofs.Standing.{passed, too_few}
use Rattle.x509_c_calls.proofs.place.walk.pass.Goals as goal

pub returns-then-input-place-clause-stands : goal.returns-then-input-place-clause-stands
returns-then-input-place-clause-stands c = λ text more same e. too_few _ text more _ _ c.requires same e c.if-input-place.true

pub returns-clause-stands : goal.returns-clause-stands
returns-clause-stands c = λ text more same e. passed _ text more _ _ c.requires same e
