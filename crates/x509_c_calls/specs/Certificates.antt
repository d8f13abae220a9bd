-- The bytes to be signed of a certificate that is built (RFC 5280 4.1).
use Rattle.std.specs.Prelude.{◌≡◌, ◌<◌, ◌≤◌, ◌⊎◌, ℕ, List, [], ◌∷◌, None, Result, Ok, Err}
use Rattle.x509_base.specs.AlgorithmIdentifier.{algorithm_identifier}
use Rattle.x509_base.specs.Checked.{CheckRefuses}
use Rattle.x509_base.specs.Profiles.{rfc5280_serial_number}
use Rattle.x509_base.specs.Serial.{serial_number}
use Rattle.x509_base.specs.SubjectPublicKeyInfo.{subject_public_key_info}
use Rattle.x509_base.specs.Time.{IsTimeAt}
use Rattle.x509_base.specs.declared.profile.Rfc5280.{Rfc5280}
use Rattle.x509_c_calls.specs.Assembly.{certificate_part}
use Rattle.x509_c_calls.specs.Calls.{Encodes}
use Rattle.x509_c_calls.specs.Input.{RefusesEach, RefusesOrder, RefusesTime, SpellEach, unless_empty}
use Rattle.x509_c_calls.specs.declared.status.status.Status.{Status}
use Rattle.x509_c_calls.specs.declared.status.status.Status.TheVariants.{Repeated, Refused}
use Rattle.x509_cert.specs.declared.certificate.tbs_certificate.TbsCertificateInner.{TbsCertificateInner}
use Rattle.x509_cert.specs.declared.certificate.version.Version.{Version}
use Rattle.x509_cert.specs.declared.certificate.version.Version.TheVariants.{V1, V3}
use Rattle.x509_der.specs.declared.error.ErrorKind.{ErrorKind}
use Rattle.x509_der.specs.Form.{Spells}
use Rattle.x509_der.specs.Writing.{Writing, writes}
use Rattle.x509_ext.specs.Extension.{extension}
use Rattle.x509_ext.specs.LookUp.{IsRepeated, members}
use Rattle.x509_ext.specs.declared.extension.Extension.{Extension}
use Rattle.x509_name.specs.Names.{name}
use Rattle.x509_types.specs.Reencoding.{IsRefused}

-- v3 where there are extensions, else v1 (RFC 5280 4.1.2.1)
abbrev pub version_with : List Extension → Version
version_with [] = V1
version_with (first ∷ others) = V3

-- the part with these fields, and without unique identifiers (RFC 5280 4.1.2.8)
pub record IsPartOf (number algorithm issuer : List ℕ) (not_before not_after : ℕ) (subject key extensions : List ℕ) (part : TbsCertificateInner Rfc5280) : Type 0 where
  pub number_is : Spells (serial_number rfc5280_serial_number) part.serial_number number
  pub algorithm_is : Spells algorithm_identifier part.signature algorithm
  pub issuer_is : Spells name part.issuer issuer
  pub not_before_is : IsTimeAt not_before part.validity.not_before
  pub not_after_is : IsTimeAt not_after part.validity.not_after
  pub dates_in_order : not_before ≤ not_after
  pub subject_is : Spells name part.subject subject
  pub key_is : Spells subject_public_key_info part.subject_public_key_info key
  pub issuer_unique_id_is : part.issuer_unique_id ≡ None
  pub subject_unique_id_is : part.subject_unique_id ≡ None
  pub extensions_are : (given : List Extension) × SpellEach extension given extensions × (part.version ≡ version_with given) × (part.extensions ≡ unless_empty given)

-- one of what is given is refused
abbrev pub RefusesPart : List ℕ → List ℕ → List ℕ → ℕ → ℕ → List ℕ → List ℕ → List ℕ → ErrorKind → Type 0
RefusesPart number algorithm issuer not_before not_after subject key extensions e =
    IsRefused (serial_number rfc5280_serial_number) (CheckRefuses rfc5280_serial_number) number e
    ⊎ (IsRefused algorithm_identifier (λ e. ⊥) algorithm e
    ⊎ (IsRefused name (λ e. ⊥) issuer e
    ⊎ (RefusesTime not_before e
    ⊎ (RefusesTime not_after e
    ⊎ (RefusesOrder not_before not_after e
    ⊎ (IsRefused name (λ e. ⊥) subject e
    ⊎ (IsRefused subject_public_key_info (λ e. ⊥) key e
    ⊎ RefusesEach extension (λ e. ⊥) extensions e)))))))

-- the encoding of that part, of whose extensions no two have one OID; or why there is none
abbrev pub BuildsCertificate : Writing (TbsCertificateInner Rfc5280) → List ℕ → List ℕ → List ℕ → ℕ → ℕ → List ℕ → List ℕ → List ℕ → Result (List ℕ) Status → Type 0
BuildsCertificate writing number algorithm issuer not_before not_after subject key extensions (Ok bytes) =
    (part : TbsCertificateInner Rfc5280) × IsPartOf number algorithm issuer not_before not_after subject key extensions part
    × (¬ IsRepeated (members part.extensions)) × Encodes certificate_part (writes writing part) (Ok bytes)
BuildsCertificate writing number algorithm issuer not_before not_after subject key extensions (Err Repeated) =
    (part : TbsCertificateInner Rfc5280) × IsPartOf number algorithm issuer not_before not_after subject key extensions part
    × IsRepeated (members part.extensions)
BuildsCertificate writing number algorithm issuer not_before not_after subject key extensions (Err (Refused e)) =
    RefusesPart number algorithm issuer not_before not_after subject key extensions e
    ⊎ ((part : TbsCertificateInner Rfc5280) × IsPartOf number algorithm issuer not_before not_after subject key extensions part
    × (¬ IsRepeated (members part.extensions)) × Encodes certificate_part (writes writing part) (Err e))
BuildsCertificate writing number algorithm issuer not_before not_after subject key extensions (Err _) = ⊥
