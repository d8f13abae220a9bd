use Rattle.x509_der.specs.Arcs.{subidentifier}
use Rattle.x509_name.specs.AttributeNames.{attribute_names}
use Rattle.x509_name.specs.Keys.{key_of}
use Rattle.x509_name.proofs.text.keys.row_of.Goals as goal

pub returns : goal.returns
unfolding key_of attribute_names subidentifier
returns c = rw c.as_bytes.ensures.octets at c.find_octets.ensures
