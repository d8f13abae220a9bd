use Rattle.std.proofs.Common.{List, Option, take}
use Rattle.std.specs.List.{All}
use Rattle.x509_constraints.specs.Applied.{AreApplied}
use Rattle.x509_ext.specs.declared.pkix.alternative_names.SubjectAltName.{SubjectAltName}
use Rattle.x509_ext.specs.declared.pkix.name_constraints.NameConstraints.{NameConstraints}
use Rattle.x509_path_steps.proofs.common_names.allows_attributes.Given as goal
use Rattle.x509_path_steps.specs.ServerNames.{AreForms, IsOneAllowed}

abbrev pub invariant-loop-attribute : goal.invariant-loop-attribute
invariant-loop-attribute l =
    (applied : List NameConstraints) (names : Option SubjectAltName) → AreApplied l.sets applied → AreForms l.forms names → All (λ a. IsOneAllowed applied names a) (take l.attribute-index l.attributes)
