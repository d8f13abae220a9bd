use Rattle.x509_base.specs.SerialOrder.{equal_numbers_tie}
use Rattle.x509_base.proofs.laws.equal_serial_numbers_are_one_key.Goals as goal

pub returns-clause-order : goal.returns-clause-order
returns-clause-order g c = equal_numbers_tie g.P.Profile.serial_check
