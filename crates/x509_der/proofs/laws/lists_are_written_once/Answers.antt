use Rattle.x509_der.specs.ListWriting.{members_stable}
use Rattle.x509_der.proofs.laws.lists_are_written_once.Goals as goal

pub returns : goal.returns
returns g c = λ stable. members_stable g.T.Encode.writing stable
