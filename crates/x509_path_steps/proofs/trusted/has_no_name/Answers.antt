use Rattle.x509_path_steps.proofs.EmptyNames.{no_name}
use Rattle.x509_path_steps.proofs.trusted.has_no_name.Goals as goal

pub returns : goal.returns
returns c = λ certificate lends. rw c.eq.ensures (no_name certificate c.args.certificate.now.bytes.now lends c.subject.result.now (c.subject.ensures certificate lends))
