-- The signed parts that a builder of certificates makes (RFC 5280 4.1.2).
use Rattle.std.specs.Prelude.{◌⊎◌, ℕ, List, [], ◌∷◌, ◌++◌, Option, Some, None}
use Rattle.x509_base.specs.declared.algorithm_identifier.AlgorithmIdentifier.{AlgorithmIdentifier}
use Rattle.x509_base.specs.declared.subject_public_key_info.SubjectPublicKeyInfo.{SubjectPublicKeyInfo}
use Rattle.x509_base.specs.Profiles.{rfc5280_time}
use Rattle.x509_base.specs.declared.profile.Rfc5280.{Rfc5280}
use Rattle.x509_base.specs.declared.validity.Validity.{Validity}
use Rattle.x509_build.specs.Answer.{Answer, IsRefused}
use Rattle.x509_build.specs.Parts.{no_algorithm}
use Rattle.x509_cert.specs.TbsCertificate.{NameList}
use Rattle.x509_cert.specs.declared.certificate.tbs_certificate.TbsCertificateInner.{TbsCertificateInner}
use Rattle.x509_cert.specs.declared.certificate.version.Version.{Version}
use Rattle.x509_cert.specs.declared.certificate.version.Version.TheVariants.{V1, V3}
use Rattle.x509_ext.specs.declared.extension.Extension.{Extension}
use Rattle.x509_build.specs.declared.certificate_builder.CertificateBuilder.{CertificateBuilder}

abbrev pub TbsCertificate : Type 0
TbsCertificate = TbsCertificateInner Rfc5280

-- ---- the part as a builder is made with it

-- both dates as RFC 5280 4.1.2.5 wants them
abbrev pub rfc5280_validity : Validity Rfc5280 → Validity Rfc5280
rfc5280_validity v = record v { not_before = rfc5280_time v.not_before; not_after = rfc5280_time v.not_after }

abbrev pub first_part : List ℕ → NameList → Validity Rfc5280 → NameList → SubjectPublicKeyInfo → TbsCertificate
first_part serial_number issuer validity subject key = record {
  version = V3;
  serial_number = serial_number;
  signature = no_algorithm;
  issuer = issuer;
  validity = rfc5280_validity validity;
  subject = subject;
  subject_public_key_info = key;
  issuer_unique_id = None;
  subject_unique_id = None;
  extensions = None;
}

-- the builder, with the names that the profile gives; the profile may refuse the subject, and else the issuer of that subject
abbrev pub new_builder : {P : Type 0} → Answer NameList → (NameList → Answer NameList) → P → List ℕ → Validity Rfc5280 → SubjectPublicKeyInfo → Answer (CertificateBuilder P)
new_builder subject issuer profile serial_number validity key = record {
  value = record {
    profile = profile;
    tbs = first_part serial_number (issuer subject.value).value validity subject.value key;
    extensions = [];
  };
  refuses = λ e. subject.refuses e ⊎ ((IsRefused subject → ⊥) × (issuer subject.value).refuses e);
}

-- ---- the part that a signer makes of it

-- what a profile is asked with: the signer's algorithm, and no extensions yet
abbrev pub bare_part : TbsCertificate → AlgorithmIdentifier → TbsCertificate
bare_part part algorithm = record part { version = V3; signature = algorithm; issuer_unique_id = None; subject_unique_id = None; extensions = None }

-- extensions are of version 3 (RFC 5280 4.1.2.1)
abbrev pub version_with : List Extension → Version
version_with [] = V1
version_with (extension ∷ extensions) = V3

abbrev pub where_any : List Extension → Option (List Extension)
where_any [] = None
where_any (extension ∷ extensions) = Some (extension ∷ extensions)

abbrev pub part_with : TbsCertificate → List Extension → TbsCertificate
part_with part extensions = record part { version = version_with extensions; extensions = where_any extensions }

-- The part with the added extensions, followed by what the profile answers for the part's key and the signer's; refused as
-- the profile refuses.
abbrev pub next_part : (SubjectPublicKeyInfo → SubjectPublicKeyInfo → TbsCertificate → Answer (List Extension)) → TbsCertificate → List Extension → AlgorithmIdentifier → SubjectPublicKeyInfo → Answer TbsCertificate
next_part profile part added algorithm key = record {
  value = part_with (bare_part part algorithm) (added ++ (profile part.subject_public_key_info key (bare_part part algorithm)).value);
  refuses = (profile part.subject_public_key_info key (bare_part part algorithm)).refuses;
}
