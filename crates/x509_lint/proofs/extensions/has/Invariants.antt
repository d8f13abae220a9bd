use Rattle.std.proofs.Common.{◌≡◌, length}
use Rattle.x509_lint.specs.Words.{has}
use Rattle.x509_lint.proofs.extensions.has.Given as goal

abbrev pub invariant-loop-rest : goal.invariant-loop-rest
invariant-loop-rest g l = has g.T.AssociatedOid.OID l.rest ≡ has g.T.AssociatedOid.OID l.extensions

abbrev pub decreases-loop-rest : goal.decreases-loop-rest
decreases-loop-rest g l = length l.rest
