use Rattle.x509_der.specs.TagReading.{same_tag}
use Rattle.x509_der.proofs.laws.one_tag.Goals as goal

pub returns : goal.returns
returns c = same_tag
