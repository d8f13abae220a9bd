use Rattle.x509_name.proofs.Unescaping.{one_reading}
use Rattle.x509_name.proofs.laws.one_reading.Goals as goal

pub returns : goal.returns
returns c = one_reading
