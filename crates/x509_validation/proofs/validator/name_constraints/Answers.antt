use Rattle.std.proofs.Common.{◌≡◌, ◌↔◌, Some, subst}
use Rattle.x509_ext.specs.Identifiers.{id_ce}
use Rattle.x509_ext.specs.NameConstraints.{name_constraints}
use Rattle.x509_path.specs.Certificates.{HasPayload}
use Rattle.x509_validation.proofs.validator.name_constraints.Goals as goal

pub returns : goal.returns
returns c = λ certificate same early constraints.
    subst (λ es. HasPayload name_constraints (id_ce 30) es constraints ↔ (c.in_ok-found.found ≡ Some constraints)) same (c.in_ok-found.ensures constraints)
