use Rattle.x509_cert.proofs.CertificateSignedPart.{written_again}
use Rattle.x509_cert.proofs.certificate.laws.rfc5280_signed_bytes_are_written_again.Goals as goal

pub returns : goal.returns
returns c = λ v bytes signed spells part. written_again _ c.rfc5280_dates_are_written_once.ensures v bytes signed spells part
