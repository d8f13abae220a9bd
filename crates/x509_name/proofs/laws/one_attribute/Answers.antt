use Rattle.x509_name.proofs.AttributeLaws.{one_attribute}
use Rattle.x509_name.proofs.laws.one_attribute.Goals as goal

pub returns : goal.returns
returns c = one_attribute
