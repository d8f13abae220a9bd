use Rattle.x509_path.proofs.Lent.{differ}
use Rattle.x509_validation.proofs.details.is_faulty.Goals as goal

pub returns-in-Extension : goal.returns-in-Extension
returns-in-Extension c = rw c.in-Extension.is (differ c.is_decodable.result c.is_decodable.ensures)
