use Rattle.std.proofs.Common.{List, take}
use Rattle.std.specs.List.{All}
use Rattle.x509_ext.specs.declared.pkix.name_constraints.NameConstraints.{NameConstraints}
use Rattle.x509_constraints.specs.Applied.{AreApplied}
use Rattle.x509_constraints.specs.Constraints.{IsAttributeAllowed}
use Rattle.x509_constraints.proofs.sets.ConstraintSets.allows_attributes.Given as goal

abbrev pub invariant-loop-attribute : goal.invariant-loop-attribute
invariant-loop-attribute l = (sets : List NameConstraints) → AreApplied l.self sets → All (λ name. IsAttributeAllowed sets name) (take l.attribute-index l.attributes)
