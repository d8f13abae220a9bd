-- What the calls of each profile take (CA/Browser Forum, Baseline Requirements 7.1.2; IEEE 802.1AR 8).
use Rattle.std.specs.Option.{option_map}
use Rattle.std.specs.Prelude.{◌≡◌, ◌≤◌, ◌<◌, ◌⊎◌, ℕ, Bool, List, [], ◌∷◌, Option, Some, None, Ok, Err}
use Rattle.x509_base.specs.declared.subject_public_key_info.SubjectPublicKeyInfo.{SubjectPublicKeyInfo}
use Rattle.x509_build.specs.CaNaming.{IsCaName}
use Rattle.x509_build.specs.Domain.{domain_name}
use Rattle.x509_build.specs.Modules.{NamesModule}
use Rattle.x509_build.specs.declared.error.Error as builder
use Rattle.x509_build.specs.declared.profile.cabf.Root.{Root}
use Rattle.x509_build.specs.declared.profile.cabf.tls.CertificateType.TheVariants.{DomainValidated}
use Rattle.x509_build.specs.declared.profile.cabf.tls.Subordinate.{Subordinate}
use Rattle.x509_build.specs.declared.profile.cabf.tls.Subscriber.{Subscriber}
use Rattle.x509_build.specs.declared.profile.devid.DevId.{DevId}
use Rattle.x509_c_calls.specs.Refusals.{kind_of}
use Rattle.x509_c_calls.specs.declared.build.tls.SubscriberUses.{SubscriberUses}
use Rattle.x509_c_calls.specs.declared.build.profile.PartInputs.{PartInputs}
use Rattle.x509_c_calls.specs.declared.build.profile.ProfileInputs.{ProfileInputs}
use Rattle.x509_cert.specs.TbsCertificate.{NameList}
use Rattle.x509_der.specs.declared.error.ErrorKind.{ErrorKind}
use Rattle.x509_der.specs.declared.error.ErrorKind.TheVariants.{Value}
use Rattle.x509_der.specs.Form.{Spells}
use Rattle.x509_ext.specs.GeneralName.{general_names}
use Rattle.x509_ext.specs.declared.pkix.name.general_name.GeneralName.{GeneralName}
use Rattle.x509_name.specs.Names.{name}
use Rattle.x509_types.specs.Reencoding.{IsRefused}

-- the profile that was made, and the other inputs
abbrev pub Inputs : {P : Type 0} → (P → Type 0) → (SubjectPublicKeyInfo → Type 0) → (PartInputs → Type 0) → ProfileInputs P → Type 0
Inputs IsProfile IsKey AreOthers inputs = IsProfile inputs.profile × IsKey inputs.issuer_key × AreOthers inputs.part

-- ---- a root

-- the profile of a root with that name, which a certification authority may have
abbrev pub IsRoot : List ℕ → Bool → Root → Type 0
IsRoot subject emits_ocsp_response root =
    (given : NameList) × Spells name given subject × IsCaName {T = Root} given (Ok root) × (root ≡ record { emits_ocsp_response = emits_ocsp_response; subject = given })

-- there is none: the bytes are no name, or a name that no authority may have
abbrev pub RefusesRoot : List ℕ → ErrorKind → Type 0
RefusesRoot subject e =
    IsRefused name (λ e. ⊥) subject e ⊎ ((given : NameList) × Spells name given subject × (why : builder.Error) × (kind_of why ≡ e) × IsCaName {T = Root} given (Err why))

-- ---- a subordinate authority

-- a path length constraint of 0 to 255, or none
abbrev pub IsPathLen : Option ℕ → Option ℕ → Type 0
IsPathLen None constraint = constraint ≡ None
IsPathLen (Some told) constraint = (told ≤ 255) × (constraint ≡ Some told)

abbrev pub RefusesPathLen : Option ℕ → ErrorKind → Type 0
RefusesPathLen None e = ⊥
RefusesPathLen (Some told) e = (e ≡ Value) × (255 < told)

pub record IsSubordinate (issuer subject : List ℕ) (path_len : Option ℕ) (emits_ocsp_response client_auth : Bool) (profile : Subordinate) : Type 0 where
  pub issuer_is : Spells name profile.issuer issuer
  pub subject_is : Spells name profile.subject subject
  pub path_len_is : IsPathLen path_len profile.path_len_constraint
  pub emits_is : profile.emits_ocsp_response ≡ emits_ocsp_response
  pub client_auth_is : profile.client_auth ≡ client_auth

abbrev pub RefusesSubordinate : List ℕ → List ℕ → Option ℕ → ErrorKind → Type 0
RefusesSubordinate issuer subject path_len e = IsRefused name (λ e. ⊥) issuer e ⊎ (IsRefused name (λ e. ⊥) subject e ⊎ RefusesPathLen path_len e)

-- ---- a subscriber of whom control of the domains was validated

pub record IsSubscriber (issuer subject : List ℕ) (uses : SubscriberUses) (profile : Subscriber) : Type 0 where
  pub issuer_is : Spells name profile.issuer issuer
  pub subject_is : (given : NameList) × Spells name given subject × (profile.certificate_type ≡ DomainValidated (record { subject = domain_name given; names = [] }))
  pub client_auth_is : profile.client_auth ≡ uses.client_auth
  pub options_are : profile.tls12_options ≡ record { enable_key_encipherment = uses.key_encipherment; enable_key_agreement = uses.key_agreement }
  pub data_encipherment_is : profile.enable_data_encipherment ≡ uses.data_encipherment

abbrev pub RefusesSubscriber : List ℕ → List ℕ → ErrorKind → Type 0
RefusesSubscriber issuer subject e = IsRefused name (λ e. ⊥) issuer e ⊎ IsRefused name (λ e. ⊥) subject e

-- ---- a device

-- no bytes are no names
abbrev pub SpellsNames : List ℕ → Option (List GeneralName) → Type 0
SpellsNames [] names = names ≡ None
SpellsNames (byte ∷ bytes) None = ⊥
SpellsNames (byte ∷ bytes) (Some names) = Spells general_names names (byte ∷ bytes)

abbrev pub RefusesNames : List ℕ → ErrorKind → Type 0
RefusesNames [] e = ⊥
RefusesNames (byte ∷ bytes) e = IsRefused general_names (λ e. ⊥) (byte ∷ bytes) e

-- with those names, which are none, or of which the first that is said to be that of a hardware module is one (x509_build's Modules)
pub record IsDevice (issuer subject names : List ℕ) (profile : DevId) : Type 0 where
  pub issuer_is : Spells name profile.issuer issuer
  pub subject_is : Spells name profile.subject subject
  pub names_are : (given : Option (List GeneralName)) × SpellsNames names given × NamesModule {T = DevId} given (Ok profile) × (profile.subject_alt_name ≡ option_map (λ g. record { 0 = g }) given)

abbrev pub RefusesDevice : List ℕ → List ℕ → List ℕ → ErrorKind → Type 0
RefusesDevice issuer subject names e =
    IsRefused name (λ e. ⊥) issuer e
    ⊎ (IsRefused name (λ e. ⊥) subject e
    ⊎ (RefusesNames names e
    ⊎ ((given : Option (List GeneralName)) × SpellsNames names given × (why : builder.Error) × (kind_of why ≡ e) × NamesModule {T = DevId} given (Err why))))
