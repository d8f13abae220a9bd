use Rattle.x509_name.proofs.AttributeLaws.{attribute_again}
use Rattle.x509_name.proofs.laws.attribute_again.Goals as goal

pub returns : goal.returns
returns c = attribute_again
