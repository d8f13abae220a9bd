use Rattle.x509_validation.proofs.Unusable.{none_unusable, unusable}
use Rattle.x509_validation.proofs.validator.is_unusable.Goals as goal

pub returns-in-Some : goal.returns-in-Some
returns-in-Some c = λ certificate has. unusable certificate _ has _ c.in-Some.is c.is_usable.result c.is_usable.ensures

pub returns-in-None : goal.returns-in-None
returns-in-None c = λ certificate has. none_unusable certificate _ has c.in-None.is
