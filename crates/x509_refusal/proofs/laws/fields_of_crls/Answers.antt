use Rattle.x509_base.specs.declared.profile.Raw.{Raw}
use Rattle.x509_cert.specs.Respelling.{no_check}
use Rattle.x509_cert.specs.CertificateList.{certificate_list_fields}
use Rattle.x509_cert.specs.CertificateList.{tbs_cert_list_fields}
use Rattle.x509_refusal.proofs.Tables.{are_read, certificate_list_table, tbs_cert_list_table}
use Rattle.x509_refusal.specs.Fields.{fields_of}
use Rattle.x509_refusal.specs.declared.field.Field.TheVariants as fields
use Rattle.x509_refusal.proofs.laws.fields_of_crls.Goals as goal

pub returns-clause-crl : goal.returns-clause-crl
returns-clause-crl c = λ octets. are_read _ (certificate_list_fields {P = Raw} no_check) fields.CertificateList (fields_of fields.CertificateList) certificate_list_table octets

pub returns-clause-signed_part : goal.returns-clause-signed_part
returns-clause-signed_part c = λ octets. are_read _ (tbs_cert_list_fields {P = Raw} no_check) fields.TbsCertList (fields_of fields.TbsCertList) tbs_cert_list_table octets
