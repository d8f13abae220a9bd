use Rattle.x509_name.proofs.Cuts.{one_cut}
use Rattle.x509_name.proofs.laws.one_cut.Goals as goal

pub returns : goal.returns
returns c = one_cut
