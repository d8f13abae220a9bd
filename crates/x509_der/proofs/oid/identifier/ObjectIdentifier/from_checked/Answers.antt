use Rattle.x509_der.specs.Stored.{stored}
use Rattle.x509_der.proofs.oid.identifier.ObjectIdentifier.from_checked.Goals as goal

pub invariant_of-result : goal.invariant_of-result
invariant_of-result c = rw c.copy_from_slice.ensures.after (stored c.args.content.now c.split_at_mut-front.result.1.now c.requires c.split_at_mut-front.ensures.back)
