use Rattle.x509_revocation.proofs.Parts.{issuer_spells}
use Rattle.x509_revocation.proofs.Signed.{no_signer, some_signer}
use Rattle.x509_revocation.proofs.steps.is_of_signer.Goals as goal

pub returns-then-not-is_anchor : goal.returns-then-not-is_anchor
returns-then-not-is_anchor c = λ given lends. no_signer c.args.given.now.signer given.signer given.crl c.is_anchor.result c.is_anchor.ensures c.if-not-is_anchor.true lends.signer

pub returns : goal.returns
returns c = λ given lends.
    some_signer c.args.given.now.signer given.signer given.crl c.is_anchor.result c.in_ok-same.same c.is_anchor.ensures c.if-not-is_anchor.false lends.signer
    (λ anchor lent. c.in_ok-same.ensures anchor.name given.crl.tbs_cert_list.issuer lent.0
    (issuer_spells given.crl c.args.given.now.crl.now.bytes.now lends.crl c.issuer.result.now (c.issuer.ensures given.crl lends.crl)))
