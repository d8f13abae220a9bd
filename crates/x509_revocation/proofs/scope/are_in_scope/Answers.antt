use Rattle.x509_revocation.proofs.scope.are_in_scope.Goals as goal

pub returns-in-Some : goal.returns-in-Some
returns-in-Some c = λ certificate lends. rw c.in-Some.is (c.is_in_scope.ensures certificate (c.is_ca.ensures certificate lends))
