use Rattle.std.proofs.Common.{List, take}
use Rattle.std.specs.List.{All}
use Rattle.x509_ext.specs.declared.pkix.name_constraints.NameConstraints.{NameConstraints}
use Rattle.x509_constraints.specs.Applied.{AreApplied}
use Rattle.x509_constraints.specs.Constraints.{IsAttributeAllowed}
use Rattle.x509_constraints.proofs.sets.ConstraintSets.allows_emails.Given as goal

abbrev pub invariant-loop-rdn : goal.invariant-loop-rdn
invariant-loop-rdn l = (sets : List NameConstraints) → AreApplied l.self sets → All (λ name. All (λ a. IsAttributeAllowed sets a) name) (take l.rdn-index l.subject)
