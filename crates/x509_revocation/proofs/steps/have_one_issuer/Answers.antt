use Rattle.x509_revocation.proofs.Parts.{issuer_spells}
use Rattle.x509_revocation.proofs.steps.have_one_issuer.Goals as goal

pub returns : goal.returns
returns c = λ x y lends other.
    c.in_ok-same.ensures x.tbs_cert_list.issuer y.tbs_cert_list.issuer (issuer_spells x c.args.a.now.bytes.now lends c.issuer.result.now (c.issuer.ensures x lends)) (issuer_spells y c.args.b.now.bytes.now other c.issuer-2.result.now (c.issuer-2.ensures y other))
