use Rattle.x509_name.proofs.AttributeLaws.{one_attribute_text}
use Rattle.x509_name.proofs.laws.one_attribute_text.Goals as goal

pub returns : goal.returns
returns c = one_attribute_text
