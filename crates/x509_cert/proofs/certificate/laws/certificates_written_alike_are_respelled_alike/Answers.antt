use Rattle.x509_cert.proofs.Respelled.{tbs_certificates_alike, certificates_alike, lists_alike}
use Rattle.x509_cert.proofs.certificate.laws.certificates_written_alike_are_respelled_alike.Goals as goal

pub returns-clause-signed : goal.returns-clause-signed
returns-clause-signed g c = λ stable. tbs_certificates_alike _ _ stable

pub returns-clause-whole : goal.returns-clause-whole
returns-clause-whole g c = λ stable. certificates_alike _ _ stable

pub returns-clause-listed : goal.returns-clause-listed
returns-clause-listed g c = λ stable. lists_alike _ _ stable
