use Rattle.x509_der.specs.Any.{any_found}
use Rattle.x509_der.proofs.any.AnyDecode.read.Goals as goal

pub returns-clause-exact : goal.returns-clause-exact
returns-clause-exact c = rw c.in_ok-from_slice.ensures.ok (any_found c.args.tag c.args.content.now c.in_ok-from_octet.field-0 c.in_ok-from_octet.ensures.ok)
