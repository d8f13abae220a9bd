use Rattle.x509_base.proofs.Dates.{dates_stable, rfc5280_once}
use Rattle.x509_base.proofs.laws.rfc5280_dates_are_written_once.Goals as goal

pub returns : goal.returns
returns c = dates_stable _ rfc5280_once
