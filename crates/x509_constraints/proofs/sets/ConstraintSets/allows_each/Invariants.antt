use Rattle.std.proofs.Common.{List, take}
use Rattle.std.specs.List.{All}
use Rattle.x509_ext.specs.declared.pkix.name_constraints.NameConstraints.{NameConstraints}
use Rattle.x509_constraints.specs.Applied.{AreApplied}
use Rattle.x509_constraints.specs.Constraints.{IsAllowed}
use Rattle.x509_constraints.proofs.sets.ConstraintSets.allows_each.Given as goal

abbrev pub invariant-loop-name : goal.invariant-loop-name
invariant-loop-name l = (sets : List NameConstraints) → AreApplied l.self sets → All (λ name. IsAllowed sets name) (take l.name-index l.names)
