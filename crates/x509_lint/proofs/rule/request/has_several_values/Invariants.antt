use Rattle.std.proofs.Common.{◌≡◌, length}
use Rattle.x509_lint.specs.Request.{has_several_values}
use Rattle.x509_lint.proofs.rule.request.has_several_values.Given as goal

abbrev pub invariant-loop-attributes : goal.invariant-loop-attributes
invariant-loop-attributes g l = has_several_values g.T.AssociatedOid.OID l.attributes ≡ has_several_values g.T.AssociatedOid.OID l.initial.attributes

abbrev pub decreases-loop-attributes : goal.decreases-loop-attributes
decreases-loop-attributes g l = length l.attributes
