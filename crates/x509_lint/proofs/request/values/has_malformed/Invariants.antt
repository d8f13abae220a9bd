use Rattle.std.proofs.Common.{◌≡◌, length}
use Rattle.x509_lint.specs.Request.{has_malformed}
use Rattle.x509_lint.proofs.request.values.has_malformed.Given as goal

abbrev pub invariant-loop-attributes : goal.invariant-loop-attributes
invariant-loop-attributes g l =
    has_malformed g.T.Grammar.form g.T.AssociatedOid.OID l.attributes ≡ has_malformed g.T.Grammar.form g.T.AssociatedOid.OID l.initial.attributes

abbrev pub decreases-loop-attributes : goal.decreases-loop-attributes
decreases-loop-attributes g l = length l.attributes
