use Rattle.x509_revocation.proofs.Silent.{silent}
use Rattle.x509_revocation.proofs.laws.a_crl_with_a_fault_says_nothing.Goals as goal

pub returns : goal.returns
returns c = λ question all given fault place reasons revoked has says adds. silent question all given fault place reasons revoked has says adds
