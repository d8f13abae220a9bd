use Rattle.x509_name.proofs.Cuts.{cut_is_joined}
use Rattle.x509_name.proofs.text.parts.Parts.new.Goals as goal

pub returns-clause-joined : goal.returns-clause-joined
returns-clause-joined c = cut_is_joined _ _
