use Rattle.x509_validation.proofs.Lasts.{none_valid}
use Rattle.x509_validation.proofs.laws.no_valid_path_ends_in_a_faulty_certificate.Goals as goal

pub returns : goal.returns
returns c = none_valid
