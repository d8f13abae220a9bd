use Rattle.x509_revocation.proofs.Silent.{speaks}
use Rattle.x509_revocation.proofs.laws.a_crl_without_a_fault_says.Goals as goal

pub returns : goal.returns
returns c = λ question all given place list found revoked meets has finds tells. speaks question all given place list found revoked meets has finds tells
