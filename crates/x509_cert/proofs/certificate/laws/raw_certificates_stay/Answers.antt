use Rattle.x509_cert.proofs.Respelled.{crls_stay}
use Rattle.x509_cert.proofs.certificate.laws.raw_certificates_stay.Goals as goal

pub returns-clause-listed : goal.returns-clause-listed
returns-clause-listed c = crls_stay
