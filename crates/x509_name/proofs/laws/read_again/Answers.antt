use Rattle.x509_name.proofs.Printed.{escaped_again, escaped_front}
use Rattle.x509_name.proofs.laws.read_again.Goals as goal

pub returns-clause-unescapes : goal.returns-clause-unescapes
returns-clause-unescapes c = escaped_again

pub returns-clause-front : goal.returns-clause-front
returns-clause-front c = escaped_front
