-- The bytes to be signed of a certificate that is built with a profile (RFC 5280 4.1).
use Rattle.std.specs.Prelude.{◌≡◌, ◌≤◌, ◌⊎◌, ℕ, List, Result, Ok, Err}
use Rattle.x509_base.specs.AlgorithmIdentifier.{algorithm_identifier}
use Rattle.x509_base.specs.Checked.{CheckRefuses}
use Rattle.x509_base.specs.Profiles.{rfc5280_serial_number}
use Rattle.x509_base.specs.Serial.{serial_number}
use Rattle.x509_base.specs.SubjectPublicKeyInfo.{subject_public_key_info}
use Rattle.x509_base.specs.Time.{IsTimeAt}
use Rattle.x509_base.specs.declared.subject_public_key_info.SubjectPublicKeyInfo.{SubjectPublicKeyInfo}
use Rattle.x509_build.specs.Answer.{Answer, IsRefused}
use Rattle.x509_build.specs.CertificateParts.{TbsCertificate, new_builder, next_part}
use Rattle.x509_build.specs.Parts.{Encodes, PartRefuses}
use Rattle.x509_build.specs.declared.certificate_builder.CertificateBuilder.{CertificateBuilder}
use Rattle.x509_build.specs.declared.error.Error as builder
use Rattle.x509_c_calls.specs.Assembly.{certificate_part}
use Rattle.x509_c_calls.specs.Input.{RefusesEach, RefusesOrder, RefusesTime, SpellEach}
use Rattle.x509_c_calls.specs.declared.status.status.Status.{Status}
use Rattle.x509_c_calls.specs.declared.status.status.Status.TheVariants.{Repeated, Refused}
use Rattle.x509_c_calls.specs.Refusals.{kind_of}
use Rattle.x509_c_calls.specs.declared.build.profile.PartInputs.{PartInputs}
use Rattle.x509_c_calls.specs.declared.build.profile.ProfileInputs.{ProfileInputs}
use Rattle.x509_cert.specs.TbsCertificate.{NameList}
use Rattle.x509_der.specs.declared.error.ErrorKind.{ErrorKind}
use Rattle.x509_der.specs.Form.{Spells}
use Rattle.x509_der.specs.Writing.{Writing}
use Rattle.x509_ext.specs.Extension.{extension}
use Rattle.x509_ext.specs.LookUp.{IsRepeated, members}
use Rattle.x509_ext.specs.declared.extension.Extension.{Extension}
use Rattle.x509_types.specs.Reencoding as types

-- ---- what calls of each profile take

pub record ArePartInputs (number algorithm : List ℕ) (not_before not_after : ℕ) (key extensions : List ℕ) (inputs : PartInputs) : Type 0 where
  pub number_is : Spells (serial_number rfc5280_serial_number) inputs.serial_number number
  pub algorithm_is : Spells algorithm_identifier inputs.algorithm algorithm
  pub not_before_is : IsTimeAt not_before inputs.validity.not_before
  pub not_after_is : IsTimeAt not_after inputs.validity.not_after
  pub dates_in_order : not_before ≤ not_after
  pub key_is : Spells subject_public_key_info inputs.key key
  pub extensions_are : SpellEach extension inputs.extensions.items extensions

-- one of them is refused
abbrev pub RefusesPartInputs : List ℕ → List ℕ → ℕ → ℕ → List ℕ → List ℕ → ErrorKind → Type 0
RefusesPartInputs number algorithm not_before not_after key extensions e =
    types.IsRefused (serial_number rfc5280_serial_number) (CheckRefuses rfc5280_serial_number) number e
    ⊎ (types.IsRefused algorithm_identifier (λ e. ⊥) algorithm e
    ⊎ (RefusesTime not_before e
    ⊎ (RefusesTime not_after e
    ⊎ (RefusesOrder not_before not_after e
    ⊎ (types.IsRefused subject_public_key_info (λ e. ⊥) key e
    ⊎ RefusesEach extension (λ e. ⊥) extensions e)))))

-- ---- what is made of them

-- what profiles of a kind say (x509_build's BuilderProfile)
pub record Kind (P : Type 0) : Type 1 where
  pub subject_of : P → Answer NameList
  pub issuer_of : P → NameList → Answer NameList
  pub extensions_of : P → SubjectPublicKeyInfo → SubjectPublicKeyInfo → TbsCertificate → Answer (List Extension)

-- the builder with the profile
abbrev pub start_of : {P : Type 0} → Kind P → ProfileInputs P → Answer (CertificateBuilder P)
start_of kind inputs = new_builder (kind.subject_of inputs.profile) (kind.issuer_of inputs.profile) inputs.profile inputs.part.serial_number inputs.part.validity inputs.part.key

-- the part that it finalizes to for a signer with the algorithm and the issuer's key, where the extensions were added
abbrev pub part_of : {P : Type 0} → Kind P → ProfileInputs P → Answer TbsCertificate
part_of kind inputs = next_part (kind.extensions_of inputs.profile) (start_of kind inputs).value.tbs inputs.part.extensions.items inputs.part.algorithm inputs.issuer_key

-- why there are no bytes of it: the profile gives no names, or the part can't be made
unfoldable pub RefusesProfilePart : {P : Type 0} → Kind P → Writing TbsCertificate → ProfileInputs P → builder.Error → Type 0
RefusesProfilePart kind writing inputs e =
    (start_of kind inputs).refuses e ⊎ ((IsRefused (start_of kind inputs) → ⊥) × PartRefuses certificate_part writing (part_of kind inputs) e)

-- the part has two extensions of one OID
abbrev pub RepeatsExtension : {P : Type 0} → Kind P → ProfileInputs P → Type 0
RepeatsExtension kind inputs = IsRepeated (members (part_of kind inputs).value.extensions)

-- the bytes of the part
abbrev pub ProfileParts : {P : Type 0} → Kind P → Writing TbsCertificate → ProfileInputs P → List ℕ → Type 0
ProfileParts kind writing inputs bytes = (IsRefused (start_of kind inputs) → ⊥) × Encodes certificate_part writing (part_of kind inputs) bytes

-- what is answered where the inputs were read, and where they were refused
unfoldable pub Makes : {P : Type 0} → Kind P → Writing TbsCertificate → Result (ProfileInputs P) ErrorKind → Result (List ℕ) Status → Type 0
Makes kind writing (Ok inputs) (Ok bytes) = ProfileParts kind writing inputs bytes × (¬ RepeatsExtension kind inputs)
Makes kind writing (Ok inputs) (Err Repeated) = RepeatsExtension kind inputs
Makes kind writing (Ok inputs) (Err (Refused e)) = (why : builder.Error) × (kind_of why ≡ e) × RefusesProfilePart kind writing inputs why
Makes kind writing (Ok inputs) (Err _) = ⊥
Makes kind writing (Err refusal) (Ok bytes) = ⊥
Makes kind writing (Err refusal) (Err (Refused e)) = e ≡ refusal
Makes kind writing (Err refusal) (Err _) = ⊥

-- What a call answers that takes inputs of which this holds, or refuses them so: the bytes of the part, of whose extensions no two have one OID; or
-- why there are none.
unfoldable pub BuildsProfile : {P : Type 0} → Kind P → Writing TbsCertificate → (ProfileInputs P → Type 0) → (ErrorKind → Type 0) → Result (List ℕ) Status → Type 0
BuildsProfile {P} kind writing Are Refuses (Ok bytes) = (inputs : ProfileInputs P) × Are inputs × ProfileParts kind writing inputs bytes × (¬ RepeatsExtension kind inputs)
BuildsProfile {P} kind writing Are Refuses (Err Repeated) = (inputs : ProfileInputs P) × Are inputs × RepeatsExtension kind inputs
BuildsProfile {P} kind writing Are Refuses (Err (Refused e)) =
    Refuses e ⊎ ((inputs : ProfileInputs P) × Are inputs × (why : builder.Error) × (kind_of why ≡ e) × RefusesProfilePart kind writing inputs why)
BuildsProfile {P} kind writing Are Refuses (Err _) = ⊥
