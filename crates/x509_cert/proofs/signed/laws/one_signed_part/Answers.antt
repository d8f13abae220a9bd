use Rattle.x509_cert.specs.SignedLaws.{one_part}
use Rattle.x509_cert.proofs.signed.laws.one_signed_part.Goals as goal

pub returns : goal.returns
returns c = one_part
