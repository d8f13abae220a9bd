use Rattle.x509_revocation.specs.Crls.{HasList}
use Rattle.x509_revocation.specs.Says.{AreInScope}
use Rattle.x509_revocation.proofs.Faulty.{by_list}
use Rattle.x509_revocation.proofs.steps.Asked.is_in_scope.Goals as goal

pub returns : goal.returns
returns g c = λ certificate crl lends lent.
    let listed : HasList crl c.in-Some.list = rw c.in-Some.is at (c.in_ok-listed.ensures crl lent) in
    by_list crl (AreInScope certificate) c.in-Some.list c.are_in_scope.result listed (c.are_in_scope.ensures certificate lends)
