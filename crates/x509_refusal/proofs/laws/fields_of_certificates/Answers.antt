use Rattle.x509_base.specs.declared.profile.Raw.{Raw}
use Rattle.x509_cert.specs.Respelling.{no_check}
use Rattle.x509_base.specs.Validity.{validity_fields}
use Rattle.x509_cert.specs.Certificate.{certificate_fields}
use Rattle.x509_cert.specs.TbsCertificate.{tbs_certificate_fields}
use Rattle.x509_refusal.proofs.Tables.{are_read, certificate_table, tbs_certificate_table, validity_table}
use Rattle.x509_refusal.specs.Fields.{fields_of}
use Rattle.x509_refusal.specs.declared.field.Field.TheVariants as fields
use Rattle.x509_refusal.proofs.laws.fields_of_certificates.Goals as goal

pub returns-clause-certificate : goal.returns-clause-certificate
returns-clause-certificate c = λ octets. are_read _ (certificate_fields {P = Raw} no_check) fields.Certificate (fields_of fields.Certificate) certificate_table octets

pub returns-clause-signed_part : goal.returns-clause-signed_part
returns-clause-signed_part c = λ octets. are_read _ (tbs_certificate_fields {P = Raw} no_check) fields.TbsCertificate (fields_of fields.TbsCertificate) tbs_certificate_table octets

pub returns-clause-validity : goal.returns-clause-validity
returns-clause-validity c = λ octets. are_read _ (validity_fields) fields.Validity (fields_of fields.Validity) validity_table octets
