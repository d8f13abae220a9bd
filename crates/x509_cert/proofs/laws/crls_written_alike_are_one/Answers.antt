-- What is written of a list doesn't depend on the profile's check, and no two lists have one element.
use Rattle.x509_cert.proofs.laws.crls_written_alike_are_one.Goals as goal
use Rattle.x509_cert.specs.Respelling.{no_check}
use Rattle.x509_cert.specs.AnySerial.{any_certificate_list, any_revoked_cert, any_tbs_cert_list}
use Rattle.x509_cert.specs.CertificateList.{certificate_list_fields, certificate_list_lawful, tbs_cert_list_fields, tbs_cert_list_lawful}
use Rattle.x509_cert.specs.RevokedCert.{revoked_cert_fields, revoked_cert_lawful}
use Rattle.x509_der.specs.Frames.{fields_octets}
use Rattle.x509_der.specs.SpellingLaws.{one_spelled}

pub returns-clause-entry : goal.returns-clause-entry
unfolding revoked_cert_fields fields_octets
returns-clause-entry g c = λ v w good_v good_w same. one_spelled any_revoked_cert (revoked_cert_lawful no_check) v w good_v good_w same

pub returns-clause-signed : goal.returns-clause-signed
unfolding tbs_cert_list_fields revoked_cert_fields fields_octets
returns-clause-signed g c = λ v w good_v good_w same. one_spelled any_tbs_cert_list (tbs_cert_list_lawful no_check) v w good_v good_w same

pub returns-clause-list : goal.returns-clause-list
unfolding certificate_list_fields tbs_cert_list_fields revoked_cert_fields fields_octets
returns-clause-list g c = λ v w good_v good_w same. one_spelled any_certificate_list (certificate_list_lawful no_check) v w good_v good_w same
