use Rattle.std.proofs.Common.{sym}
use Rattle.x509_cert.proofs.CertificateSignedPart.{signed_is}
use Rattle.x509_cert.proofs.certificate.laws.raw_signed_bytes_are_written_again.Goals as goal

pub returns : goal.returns
returns c = λ v bytes signed spells part. sym (signed_is _ v bytes spells signed part)
