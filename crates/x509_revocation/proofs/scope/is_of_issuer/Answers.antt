use Rattle.x509_revocation.specs.Says.{sides_of}
use Rattle.x509_revocation.proofs.Named.{if_ok}
use Rattle.x509_revocation.proofs.scope.is_of_issuer.Goals as goal

pub returns : goal.returns
returns c = if_ok _ _ c.has_any_issuer.result (λ b said certificate crl lends spells. said (sides_of certificate crl c.args.list.now) (c.in_ok-sides.ensures certificate crl lends spells)) c.has_any_issuer.ensures
