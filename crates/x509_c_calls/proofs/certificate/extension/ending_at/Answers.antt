use Rattle.x509_c_calls.proofs.Ends.{ends_at}
use Rattle.x509_c_calls.proofs.certificate.extension.ending_at.Goals as goal

pub returns : goal.returns
returns c = λ text more stands same at. rw c.saturating_sub.ensures (ends_at text more _ _ _ stands same at)
