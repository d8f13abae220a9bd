use Rattle.x509_der.specs.Exact.{exact_list}
use Rattle.x509_der.proofs.laws.equality_of_sets_is_exact.Goals as goal

pub returns : goal.returns
returns g c = exact_list
