use Rattle.x509_path.proofs.Lent.{key_spells, subject_spells}
use Rattle.x509_path.proofs.anchor_ref.AnchorRef.from_certificate.Goals as goal

pub returns : goal.returns
returns c = λ certificate lends. (
  subject_spells certificate c.args.certificate.now.bytes.now lends c.subject.result.now (c.subject.ensures certificate lends),
  key_spells certificate c.args.certificate.now.bytes.now lends c.subject_public_key_info.result.now (c.subject_public_key_info.ensures certificate lends),
)
