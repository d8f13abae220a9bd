-- Which certificates sign precertificates for an issuer (RFC 6962 3.1).
use Rattle.std.specs.List.{list_any}
use Rattle.std.specs.Prelude.{◌≡◌, true, ℕ, List, [], ◌∷◌, bytes_eq}
use Rattle.x509_cert.specs.declared.certificate.tbs_certificate.TbsCertificateInner.{TbsCertificateInner}
use Rattle.x509_der.specs.Form.{Spells as IsDer}
use Rattle.x509_ext.specs.ExtendedKeyUsage.{extended_key_usage}
use Rattle.x509_ext.specs.Identifiers.{id_ce}
use Rattle.x509_ext.specs.LookUp.{members, with_oid}
use Rattle.x509_ext.specs.declared.extension.Extension.{Extension}
use Rattle.x509_ext.specs.declared.pkix.extended_key_usage.ExtendedKeyUsage.{ExtendedKeyUsage}

-- the content octets of 1.3.6.1.4.1.11129.2.4.4, the purpose "Certificate Transparency"
abbrev pub certificate_transparency : List ℕ
certificate_transparency = 0x2B ∷ 0x06 ∷ 0x01 ∷ 0x04 ∷ 0x01 ∷ 0xD6 ∷ 0x79 ∷ 0x02 ∷ 0x04 ∷ 0x04 ∷ []

-- its one extended key usage (2.5.29.37) has that purpose
pub record SignsPrecertificates {P : Type 0} (part : TbsCertificateInner P) : Type 0 where
  pub extension : Extension
  pub usage : ExtendedKeyUsage
  pub one : with_oid (id_ce 37) (members part.extensions) ≡ extension ∷ []
  pub holds : IsDer extended_key_usage usage extension.extn_value
  pub named : list_any (λ purpose. bytes_eq purpose certificate_transparency) usage.0 ≡ true
