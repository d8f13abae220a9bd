use Rattle.std.proofs.Common.{List, Option, take}
use Rattle.std.specs.List.{All}
use Rattle.x509_constraints.specs.Applied.{AreApplied}
use Rattle.x509_ext.specs.declared.pkix.alternative_names.SubjectAltName.{SubjectAltName}
use Rattle.x509_ext.specs.declared.pkix.name_constraints.NameConstraints.{NameConstraints}
use Rattle.x509_path_steps.proofs.common_names.allows_rdns.Given as goal
use Rattle.x509_path_steps.specs.ServerNames.{AreForms, IsOneAllowed}

abbrev pub invariant-loop-rdn : goal.invariant-loop-rdn
invariant-loop-rdn l =
    (applied : List NameConstraints) (names : Option SubjectAltName) → AreApplied l.sets applied → AreForms l.forms names → All (λ rdn. All (λ a. IsOneAllowed applied names a) rdn) (take l.rdn-index l.rdns)
