use Rattle.std.proofs.Common.{◌↔◌, ℕ, List, IsTrue, subst}
use Rattle.x509_revocation.specs.Crls.{IsSignedBy}
use Rattle.x509_revocation.proofs.Faulty.{no_signature, some_signature}
use Rattle.x509_revocation.proofs.steps.Asked.is_accepted.Goals as goal

pub returns-then-not-is_anchor : goal.returns-then-not-is_anchor
returns-then-not-is_anchor g c = λ given lends.
    no_signature c.args.given.now.signer c.is_anchor.result c.is_anchor.ensures (g.V.SliceVerifier.accepts c.args.self.now.verifier.now) given.bytes given.crl given.signer c.if-not-is_anchor.true lends.signer

pub returns : goal.returns
returns g c = λ given lends.
    let accepts = g.V.SliceVerifier.accepts c.args.self.now.verifier.now in
    some_signature c.args.given.now.signer c.is_anchor.result c.is_anchor.ensures accepts given.bytes given.crl given.signer c.is_signed.result c.if-not-is_anchor.false lends.signer
    (λ anchor lent. subst (λ (b : List ℕ). IsTrue c.is_signed.result ↔ IsSignedBy accepts anchor b given.crl) lends.bytes (c.is_signed.ensures given.crl anchor lends.crl lent))
