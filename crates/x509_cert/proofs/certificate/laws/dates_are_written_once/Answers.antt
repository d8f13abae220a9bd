use Rattle.x509_der.specs.ListWriting.{members_stable}
use Rattle.x509_cert.specs.Certificate.{certificate_stable}
use Rattle.x509_cert.specs.TbsCertificate.{tbs_certificate_stable}
use Rattle.x509_cert.proofs.certificate.laws.dates_are_written_once.Goals as goal

pub returns-clause-signed : goal.returns-clause-signed
returns-clause-signed g c = λ stable. tbs_certificate_stable _ _ stable

pub returns-clause-whole : goal.returns-clause-whole
returns-clause-whole g c = λ stable. certificate_stable _ _ (tbs_certificate_stable _ _ stable)

pub returns-clause-listed : goal.returns-clause-listed
returns-clause-listed g c = λ stable. members_stable _ (certificate_stable _ _ (tbs_certificate_stable _ _ stable))
