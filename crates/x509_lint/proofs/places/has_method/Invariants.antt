use Rattle.std.proofs.Common.{◌≡◌, length}
use Rattle.x509_lint.specs.Place.{has_method}
use Rattle.x509_lint.proofs.places.has_method.Given as goal

abbrev pub invariant-loop-descriptions : goal.invariant-loop-descriptions
invariant-loop-descriptions l = has_method l.method l.descriptions ≡ has_method l.method l.initial.descriptions

abbrev pub decreases-loop-descriptions : goal.decreases-loop-descriptions
decreases-loop-descriptions l = length l.descriptions
