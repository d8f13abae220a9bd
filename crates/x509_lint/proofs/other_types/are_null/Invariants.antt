use Rattle.std.proofs.Common.{◌≡◌, length}
use Rattle.x509_lint.specs.OtherTypes.{are_null}
use Rattle.x509_lint.proofs.other_types.are_null.Given as goal

abbrev pub invariant-loop-extensions : goal.invariant-loop-extensions
invariant-loop-extensions g l = are_null g.T.AssociatedOid.OID l.extensions ≡ are_null g.T.AssociatedOid.OID l.initial.extensions

abbrev pub decreases-loop-extensions : goal.decreases-loop-extensions
decreases-loop-extensions g l = length l.extensions
