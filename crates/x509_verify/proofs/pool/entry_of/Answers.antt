use Rattle.x509_path.proofs.Lent.{issuer_spells, subject_spells}
use Rattle.x509_verify.proofs.pool.entry_of.Goals as goal

pub returns-clause-under : goal.returns-clause-under
returns-clause-under c = λ certificate lends. record {
  certificate = certificate;
  lends = lends;
  subject = c.in_ok-key.ensures certificate.tbs_certificate.subject (subject_spells certificate c.args.certificate.bytes.now lends c.subject.result.now (c.subject.ensures certificate lends));
  issuer = c.in_ok-issuer.ensures certificate.tbs_certificate.issuer (issuer_spells certificate c.args.certificate.bytes.now lends c.issuer.result.now (c.issuer.ensures certificate lends));
}
