use Rattle.x509_path.proofs.OneAnswer.{one, holds, faulty}
use Rattle.x509_path.proofs.laws.one_answer.Goals as goal

pub returns-clause-answers : goal.returns-clause-answers
returns-clause-answers c = one

pub returns-clause-holds : goal.returns-clause-holds
returns-clause-holds c = holds

pub returns-clause-fault : goal.returns-clause-fault
returns-clause-fault c = faulty
