use Rattle.std.proofs.Common.{◌≡◌, length}
use Rattle.x509_lint.specs.Place.{has_place}
use Rattle.x509_lint.proofs.places.has_place.Given as goal

abbrev pub invariant-loop-descriptions : goal.invariant-loop-descriptions
invariant-loop-descriptions g l = has_place (g.P.Test.holds_of l.test) l.method l.descriptions ≡ has_place (g.P.Test.holds_of l.test) l.method l.initial.descriptions

abbrev pub decreases-loop-descriptions : goal.decreases-loop-descriptions
decreases-loop-descriptions g l = length l.descriptions
