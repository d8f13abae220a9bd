-- CRLs whose serial numbers may have any content octets.
use Rattle.x509_cert.specs.Respelling.{no_check}
use Rattle.x509_cert.specs.CertificateList.{certificate_list, tbs_cert_list}
use Rattle.x509_cert.specs.RevokedCert.{revoked_cert}
use Rattle.x509_cert.specs.declared.crl.certificate_list.CertificateList.{CertificateList}
use Rattle.x509_cert.specs.declared.crl.revoked_cert.RevokedCert.{RevokedCert}
use Rattle.x509_cert.specs.declared.crl.tbs_cert_list.TbsCertList.{TbsCertList}
use Rattle.x509_der.specs.Form.{Form}

abbrev pub any_revoked_cert : {P : Type 0} → Form (RevokedCert P)
any_revoked_cert = revoked_cert no_check

abbrev pub any_tbs_cert_list : {P : Type 0} → Form (TbsCertList P)
any_tbs_cert_list = tbs_cert_list no_check

abbrev pub any_certificate_list : {P : Type 0} → Form (CertificateList P)
any_certificate_list = certificate_list no_check
