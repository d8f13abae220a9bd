use Rattle.x509_base.specs.SubjectPublicKeyInfo.{subject_public_key_info, subject_public_key_info_lawful}
use Rattle.x509_path.proofs.Lent.{same_bytes}
use Rattle.x509_revocation.proofs.steps.have_one_key.Goals as goal

pub returns : goal.returns
returns c = λ x y lends lent.
    rw c.eq.ensures (same_bytes subject_public_key_info subject_public_key_info_lawful x.key y.key lends.1.0 lent.1.0 c.args.a.now.key.now c.args.b.now.key.now lends.1.1 lent.1.1)
