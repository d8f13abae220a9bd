use Rattle.x509_der.specs.FrontLaws.{elements}
use Rattle.x509_der.proofs.laws.no_element_begins_another.Goals as goal

pub returns : goal.returns
returns c = elements
