use Rattle.x509_base.proofs.Dates.{dates_stable}
use Rattle.x509_base.proofs.laws.dates_are_written_once.Goals as goal

pub returns : goal.returns
returns g c = λ once. dates_stable g.P.Profile.time_of once
