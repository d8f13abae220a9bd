use Rattle.x509_cert.specs.CertReq.{cert_req_fields}
use Rattle.x509_cert.specs.CertReq.{cert_req_info_fields}
use Rattle.x509_refusal.proofs.Tables.{are_read, cert_req_info_table, cert_req_table}
use Rattle.x509_refusal.specs.Fields.{fields_of}
use Rattle.x509_refusal.specs.declared.field.Field.TheVariants as fields
use Rattle.x509_refusal.proofs.laws.fields_of_requests.Goals as goal

pub returns-clause-request : goal.returns-clause-request
returns-clause-request c = λ octets. are_read _ (cert_req_fields) fields.CertificationRequest (fields_of fields.CertificationRequest) cert_req_table octets

pub returns-clause-signed_part : goal.returns-clause-signed_part
returns-clause-signed_part c = λ octets. are_read _ (cert_req_info_fields) fields.CertificationRequestInfo (fields_of fields.CertificationRequestInfo) cert_req_info_table octets
