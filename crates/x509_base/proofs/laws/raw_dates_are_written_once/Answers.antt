use Rattle.x509_base.proofs.Dates.{dates_stable, raw_once}
use Rattle.x509_base.proofs.laws.raw_dates_are_written_once.Goals as goal

pub returns : goal.returns
returns c = dates_stable _ raw_once
