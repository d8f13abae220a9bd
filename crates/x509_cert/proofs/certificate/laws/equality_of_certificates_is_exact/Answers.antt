use Rattle.x509_cert.proofs.certificate.laws.equality_of_certificates_is_exact.Goals as goal
use Rattle.x509_cert.specs.CertificateEquality.{exact_tbs_certificate, exact_certificate}

pub returns-clause-signed : goal.returns-clause-signed
returns-clause-signed g c = exact_tbs_certificate

pub returns-clause-whole : goal.returns-clause-whole
returns-clause-whole g c = exact_certificate
