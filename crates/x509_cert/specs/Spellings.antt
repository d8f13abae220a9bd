-- The spellings of a certificate's fields, each as its own element (RFC 5280 4.1).
use Rattle.std.specs.Prelude.{Some, None, option_map, if◌then◌else◌}
use Rattle.x509_base.specs.AlgorithmIdentifier.{algorithm_identifier}
use Rattle.x509_base.specs.Serial.{serial_number}
use Rattle.x509_base.specs.SubjectPublicKeyInfo.{subject_public_key_info}
use Rattle.x509_base.specs.Validity.{validity}
use Rattle.x509_cert.specs.Respelling.{any_tbs_certificate, no_check}
use Rattle.x509_cert.specs.Version.{version, is_first}
use Rattle.x509_cert.specs.declared.certificate.certificate.CertificateInner.{CertificateInner}
use Rattle.x509_cert.specs.declared.certificate.tbs_certificate.TbsCertificateInner.{TbsCertificateInner}
use Rattle.x509_ext.specs.Extension.{extensions}
use Rattle.x509_name.specs.Names.{name}
use Rattle.x509_cert.specs.Elements.{TbsElements, CertificateElements}
use Rattle.x509_der.specs.Frames.{implicit}
use Rattle.x509_der.specs.Form.{spelling}
use Rattle.x509_prim.specs.BitString.{bit_string}

-- none of version 1, which is left out
abbrev pub tbs_spellings : {P : Type 0} → TbsCertificateInner P → TbsElements
tbs_spellings t = record {
  version = if is_first t.version then None else Some (spelling version t.version);
  serial_number = spelling (serial_number no_check) t.serial_number;
  signature = spelling algorithm_identifier t.signature;
  issuer = spelling name t.issuer;
  validity = spelling validity t.validity;
  subject = spelling name t.subject;
  subject_public_key_info = spelling subject_public_key_info t.subject_public_key_info;
  issuer_unique_id = option_map (spelling (implicit 1 bit_string)) t.issuer_unique_id;
  subject_unique_id = option_map (spelling (implicit 2 bit_string)) t.subject_unique_id;
  extensions = option_map (spelling extensions) t.extensions;
}

abbrev pub certificate_spellings : {P : Type 0} → CertificateInner P → CertificateElements
certificate_spellings c = record {
  tbs_certificate = spelling any_tbs_certificate c.tbs_certificate;
  fields = tbs_spellings c.tbs_certificate;
  signature_algorithm = spelling algorithm_identifier c.signature_algorithm;
  signature = spelling bit_string c.signature;
}
