-- Anchors and candidates, by the names under which they are looked up.
use Rattle.std.specs.Prelude.{ℕ, List}
use Rattle.x509_cert.specs.Certificate.{rfc5280_certificate}
use Rattle.x509_der.specs.Form.{Spells}
use Rattle.x509_match.specs.NameKeys.{IsNameKey}
use Rattle.x509_match.specs.declared.key.MatchedName.{MatchedName}
use Rattle.x509_name.specs.Names.{name}
use Rattle.x509_name.specs.declared.attr.type_and_value.AttributeTypeAndValue.{AttributeTypeAndValue}
use Rattle.x509_path.specs.Certificates.{Certificate}
use Rattle.x509_path.specs.Lent.{Lends}
use Rattle.x509_path_steps.specs.declared.trusted.Trusted.{Trusted}
use Rattle.x509_verify.specs.declared.candidate.Candidate.{Candidate}
use Rattle.x509_verify.specs.declared.keyed.Keyed.{Keyed}

abbrev pub Name : Type 0
Name = List (List AttributeTypeAndValue)

-- its name can be decoded
abbrev pub IsNamed : Trusted → Type 0
IsNamed trusted = (x : Name) × Spells name x trusted.anchor.name.now

-- the bytes are those of a certificate
abbrev pub IsDecodable : List ℕ → Type 0
IsDecodable bytes = (c : Certificate) × Spells rfc5280_certificate c bytes

-- the entry stands under the key of the name that is trusted
abbrev pub IsUnderName : Keyed MatchedName Trusted → Type 0
IsUnderName entry = (x : Name) × Spells name x entry.value.anchor.name.now × IsNameKey entry.key x

-- the entry stands under the key of the certificate's subject, and has that of its issuer
pub record IsUnderSubject (entry : Keyed MatchedName Candidate) : Type 0 where
  pub certificate : Certificate
  pub lends : Lends entry.value.certificate.bytes.now certificate
  pub subject : IsNameKey entry.key certificate.tbs_certificate.subject
  pub issuer : IsNameKey entry.value.issuer certificate.tbs_certificate.issuer
