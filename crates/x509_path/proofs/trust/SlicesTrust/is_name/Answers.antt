use Rattle.x509_path.proofs.Lent.{same_names}
use Rattle.x509_path.proofs.trust.SlicesTrust.is_name.Goals as goal

pub returns-clause-ok : goal.returns-clause-ok
returns-clause-ok g c = λ value above spells lends. rw c.eq.ensures (same_names value above.name c.args.bytes.now c.args.self.now.anchor.now.name.now spells lends.0)
