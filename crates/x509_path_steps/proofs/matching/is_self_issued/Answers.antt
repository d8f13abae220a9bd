use Rattle.x509_path.proofs.Lent.{issuer_spells, subject_spells}
use Rattle.x509_path_steps.proofs.matching.is_self_issued.Goals as goal

pub returns : goal.returns
returns c = λ certificate lends.
    let bytes = c.args.certificate.now.bytes.now in
    let subject = subject_spells certificate bytes lends c.subject.result.now (c.subject.ensures certificate lends) in
    let issuer = issuer_spells certificate bytes lends c.issuer.result.now (c.issuer.ensures certificate lends) in
    c.in_ok-is_own.ensures certificate.tbs_certificate.subject certificate.tbs_certificate.issuer subject issuer
