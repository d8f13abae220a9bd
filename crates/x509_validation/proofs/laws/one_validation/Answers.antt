use Rattle.x509_validation.proofs.OneValidation.{faulty, valid}
use Rattle.x509_validation.proofs.laws.one_validation.Goals as goal

pub returns-clause-valid : goal.returns-clause-valid
returns-clause-valid c = valid

pub returns-clause-fault : goal.returns-clause-fault
returns-clause-fault c = faulty
