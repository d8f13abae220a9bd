-- What is trusted of a certificate, and of a trust anchor (RFC 5937 2 and 3.2, RFC 5914 2.5 and 2.6).
use Rattle.std.specs.Borrow.{Bor}
use Rattle.std.specs.Int.RustNames.{bit_and}
use Rattle.std.specs.List.{All}
use Rattle.std.specs.Prelude.{◌≡◌, ◌≢◌, ◌==◌, ◌<◌, ◌≤◌, ◌^◌, ◌⊎◌, ℕ, Bool, false, List, [], ◌∷◌, length, Option, Some, None, is_some, option_map}
use Rattle.x509_base.specs.Checked.{CheckRefuses}
use Rattle.x509_base.specs.Profiles.{rfc5280_serial_number}
use Rattle.x509_base.specs.SubjectPublicKeyInfo.{subject_public_key_info}
use Rattle.x509_base.specs.declared.profile.Rfc5280.{Rfc5280}
use Rattle.x509_cert.specs.TrustAnchorChoice.{rfc5280_trust_anchor_choice}
use Rattle.x509_cert.specs.declared.anchor.cert_path_controls.CertPathControls.{CertPathControls}
use Rattle.x509_cert.specs.declared.anchor.cert_policies.CertPolicies.{CertPolicies}
use Rattle.x509_cert.specs.declared.anchor.trust_anchor_choice.TrustAnchorChoice.{TrustAnchorChoice}
use Rattle.x509_cert.specs.declared.anchor.trust_anchor_choice.TrustAnchorChoice.TheVariants.{Certificate as Whole, TbsCertificate, TaInfo}
use Rattle.x509_cert.specs.declared.anchor.trust_anchor_info.TrustAnchorInfo.{TrustAnchorInfo}
use Rattle.x509_cert.specs.declared.certificate.tbs_certificate.TbsCertificateInner.{TbsCertificateInner}
use Rattle.x509_der.specs.Element.{limit}
use Rattle.x509_der.specs.Form.{Form, Spells, spelling, whole_reading}
use Rattle.x509_der.specs.Outcome.{IsRefusal}
use Rattle.x509_der.specs.declared.error.ErrorKind.{ErrorKind}
use Rattle.x509_der.specs.declared.error.ErrorKind.TheVariants.{Failed, Malformed, Memory, Overlength}
use Rattle.x509_ext.specs.BasicConstraints.{basic_constraints}
use Rattle.x509_ext.specs.CertificatePolicies.{certificate_policies}
use Rattle.x509_ext.specs.Identifiers.{id_ce}
use Rattle.x509_ext.specs.InhibitAnyPolicy.{inhibit_any_policy}
use Rattle.x509_ext.specs.LookUp.{members, with_oid}
use Rattle.x509_ext.specs.NameConstraints.{name_constraints}
use Rattle.x509_ext.specs.PolicyConstraints.{policy_constraints}
use Rattle.x509_ext.specs.SubjectKeyIdentifier.{subject_key_identifier}
use Rattle.x509_ext.specs.declared.extension.Extension.{Extension}
use Rattle.x509_ext.specs.declared.pkix.basic_constraints.BasicConstraints.{BasicConstraints}
use Rattle.x509_ext.specs.declared.pkix.certificate_policies.CertificatePolicies.{CertificatePolicies}
use Rattle.x509_ext.specs.declared.pkix.inhibit_any_policy.InhibitAnyPolicy.{InhibitAnyPolicy}
use Rattle.x509_ext.specs.declared.pkix.name_constraints.NameConstraints.{NameConstraints}
use Rattle.x509_ext.specs.declared.pkix.policy_constraints.PolicyConstraints.{PolicyConstraints}
use Rattle.x509_name.specs.Names.{name}
use Rattle.x509_name.specs.declared.attr.type_and_value.AttributeTypeAndValue.{AttributeTypeAndValue}
use Rattle.x509_path.specs.Certificates.{Certificate, HasPayload, extensions_of}
use Rattle.x509_path_steps.specs.Inputs.{SpellsOption, Trust}
use Rattle.x509_path_steps.specs.Says.{explicit_policy_of, mapping_inhibit_of}
use Rattle.x509_path_steps.specs.declared.limits.Limits.{Limits}
use Rattle.x509_path_steps.specs.declared.trusted_buf.TrustedBuf.{TrustedBuf}
use Rattle.x509_policy.specs.declared.anchor.AnchorFlags.{AnchorFlags}

-- the value of the one extension with the identifier, where there is any
abbrev pub IsValueOf : {T : Type 0} → Form T → List ℕ → List Extension → Option T → Type 0
IsValueOf form oid extensions None = with_oid oid extensions ≡ []
IsValueOf form oid extensions (Some value) = HasPayload form oid extensions value

abbrev pub path_length : Option BasicConstraints → Option ℕ
path_length None = None
path_length (Some basic) = basic.path_len_constraint

-- the path length that the extensions give, if they give any
abbrev pub HasLimit : List Extension → Option ℕ → Type 0
HasLimit extensions limit = (basic : Option BasicConstraints) × IsValueOf basic_constraints (id_ce 19) extensions basic × (limit ≡ path_length basic)

-- A PolicyConstraints and an InhibitAnyPolicy set flags, whatever their numbers: what is trusted has flags alone, and stands above the whole path
-- (RFC 5937 3.2).
abbrev pub flags_said : Option PolicyConstraints → Option InhibitAnyPolicy → AnchorFlags
flags_said constraints inhibit = record {
  inhibit_policy_mapping = is_some (mapping_inhibit_of constraints);
  require_explicit_policy = is_some (explicit_policy_of constraints);
  inhibit_any_policy = is_some inhibit;
}

-- the flags about policies that the extensions set
pub record AreFlags (extensions : List Extension) (flags : AnchorFlags) : Type 0 where
  pub constraints : Option PolicyConstraints
  pub inhibit : Option InhibitAnyPolicy
  pub are_constraints : IsValueOf policy_constraints (id_ce 36) extensions constraints
  pub is_inhibit : IsValueOf inhibit_any_policy (id_ce 54) extensions inhibit
  pub are_flags : flags ≡ flags_said constraints inhibit

-- the extensions limit paths so
pub record AreLimits (extensions : List Extension) (limits : Limits) : Type 0 where
  pub constraints : IsValueOf name_constraints (id_ce 30) extensions limits.constraints
  pub max_path_length : HasLimit extensions limits.max_path_length
  pub policies : IsValueOf certificate_policies (id_ce 32) extensions limits.policies
  pub flags : AreFlags extensions limits.flags

abbrev pub limits_of : Trust → Limits
limits_of trust = record { constraints = trust.constraints; max_path_length = trust.max_path_length; policies = trust.policies; flags = trust.flags }

-- a certificate is trusted: its subject, which isn't empty (RFC 5937 3.2), and its key, for the paths that its extensions allow
pub record IsTrustOf (signed : TbsCertificateInner Rfc5280) (trust : Trust) : Type 0 where
  pub named : signed.subject ≢ []
  pub anchor : trust.anchor ≡ record { name = signed.subject; key = signed.subject_public_key_info }
  pub limits : AreLimits (members signed.extensions) (limits_of trust)

-- ---- trust anchors

abbrev pub no_flags : AnchorFlags
no_flags = record { inhibit_policy_mapping = false; require_explicit_policy = false; inhibit_any_policy = false }

-- the limits that the certificate in the description of an anchor gives, if there is one
abbrev pub AreOwnLimits : Option Certificate → Limits → Type 0
AreOwnLimits None limits = limits ≡ record { constraints = None; max_path_length = None; policies = None; flags = no_flags }
AreOwnLimits (Some c) limits = AreLimits (extensions_of c) limits

-- the key identifier that the extensions give is this one, if they give any (RFC 5280 4.2.1.2)
abbrev pub HasKeyId : List Extension → List ℕ → Type 0
HasKeyId extensions key_id = (with_oid (id_ce 14) extensions ≡ []) ⊎ HasPayload subject_key_identifier (id_ce 14) extensions (record { 0 = key_id })

-- the certificate is of the description: it has this name, the key and, if it has any, the key identifier (RFC 5914 2.5)
pub record IsCertificateOf (info : TrustAnchorInfo Rfc5280) (ta_name : List (List AttributeTypeAndValue)) (signed : TbsCertificateInner Rfc5280) : Type 0 where
  pub subject : signed.subject ≡ ta_name
  pub key : signed.subject_public_key_info ≡ info.pub_key
  pub key_id : HasKeyId (members signed.extensions) info.key_id

-- so is the certificate in the description, if there is one
abbrev pub HasItsCertificate : TrustAnchorInfo Rfc5280 → CertPathControls Rfc5280 → Option Certificate → Type 0
HasItsCertificate info controls None = Unit {0}
HasItsCertificate info controls (Some c) = IsCertificateOf info controls.ta_name c.tbs_certificate

abbrev pub or_else : {X : Type 0} → Option X → Option X → Option X
or_else None other = other
or_else (Some x) other = Some x

-- the named bit n is set
abbrev pub has_flag : CertPolicies → ℕ → Bool
has_flag set n = bit_and set.0 (2 ^ n) == 2 ^ n

-- the flags of the controls (RFC 5914 2.5), or else those
abbrev pub flags_or : Option CertPolicies → AnchorFlags → AnchorFlags
flags_or None flags = flags
flags_or (Some set) flags = record { inhibit_policy_mapping = has_flag set 0; require_explicit_policy = has_flag set 1; inhibit_any_policy = has_flag set 2 }

-- the limits of the controls, and in the place of each that these don't have one of those
abbrev pub limits_under : CertPathControls Rfc5280 → Limits → Limits
limits_under controls limits = record {
  constraints = or_else controls.name_constr limits.constraints;
  max_path_length = or_else controls.path_len_constraint limits.max_path_length;
  policies = or_else controls.policy_set limits.policies;
  flags = flags_or controls.policy_flags limits.flags;
}

-- the identifier of a BasicConstraints, NameConstraints, CertificatePolicies, PolicyConstraints or InhibitAnyPolicy, which limit paths
abbrev pub LimitsPaths : List ℕ → Type 0
LimitsPaths oid = (oid ≡ id_ce 19) ⊎ ((oid ≡ id_ce 30) ⊎ ((oid ≡ id_ce 32) ⊎ ((oid ≡ id_ce 36) ⊎ (oid ≡ id_ce 54))))

-- neither critical nor of a type that limits paths
abbrev pub MayBeLeft : Extension → Type 0
MayBeLeft e = (e.critical ≡ false) × (LimitsPaths e.extn_id → ⊥)

-- A description is trusted: under the name of its controls, which isn't empty, with its key, for the paths that its controls allow; limits that these
-- don't have are those of the certificate in them, which has to be of this anchor. The extensions beside the controls aren't followed (RFC 5914 2.6),
-- so each is to be one that may be left.
pub record IsTrustOfInfo (info : TrustAnchorInfo Rfc5280) (trust : Trust) : Type 0 where
  pub controls : CertPathControls Rfc5280
  pub own : Limits
  pub has_controls : info.cert_path ≡ Some controls
  pub named : controls.ta_name ≢ []
  pub others : All (λ e. MayBeLeft e) (members info.extensions)
  pub certificate : HasItsCertificate info controls controls.certificate
  pub are_own : AreOwnLimits controls.certificate own
  pub anchor : trust.anchor ≡ record { name = controls.ta_name; key = info.pub_key }
  pub limits : limits_of trust ≡ limits_under controls own

abbrev pub IsTrustOfAnchor : TrustAnchorChoice Rfc5280 → Trust → Type 0
IsTrustOfAnchor (Whole c) trust = IsTrustOf c.tbs_certificate trust
IsTrustOfAnchor (TbsCertificate signed) trust = IsTrustOf signed trust
IsTrustOfAnchor (TaInfo info) trust = IsTrustOfInfo info trust

-- ---- what is owned

pub record HoldsTrust (trusted : TrustedBuf) (trust : Trust) : Type 0 where
  pub name : Spells name trust.anchor.name trusted.name.items
  pub key : Spells subject_public_key_info trust.anchor.key trusted.key.items
  pub constraints : SpellsOption (λ octets. octets) name_constraints (option_map (λ octets. octets.items) trusted.name_constraints) trust.constraints
  pub max_path_length : trust.max_path_length ≡ trusted.max_path_length
  pub policies : SpellsOption (λ octets. octets) certificate_policies (option_map (λ octets. octets.items) trusted.policies) trust.policies
  pub flags : trust.flags ≡ trusted.policy_flags

-- ---- refusals

-- the name, the key, the constraints or the policies are longer than an element may be
abbrev pub IsOverlong : Trust → Type 0
IsOverlong trust =
    (limit < length (spelling name trust.anchor.name))
    ⊎ ((limit < length (spelling subject_public_key_info trust.anchor.key))
    ⊎ (((constraints : NameConstraints) × (trust.constraints ≡ Some constraints) × (limit < length (spelling name_constraints constraints)))
    ⊎ ((policies : CertificatePolicies) × (trust.policies ≡ Some policies) × (limit < length (spelling certificate_policies policies)))))

-- The bytes are refused as those of no value: they are too long; or they spell none, as Malformed or as a refusal of the type's own, and which of
-- them says reading. refuses are the errors of the type's own in reading.
abbrev pub IsRefused : {X : Type 0} → Form X → (ErrorKind → Type 0) → List ℕ → ErrorKind → Type 0
IsRefused {X} form refuses bytes e =
    ((limit < length bytes) × (e ≡ Overlength))
    ⊎ ((length bytes ≤ limit) × ((e ≡ Malformed) ⊎ refuses e) × ((value : X) → Spells form value bytes → ⊥) × IsRefusal e (whole_reading form.reading bytes))

-- the bytes are those of no trust anchor
abbrev pub IsNoAnchor : List ℕ → ErrorKind → Type 0
IsNoAnchor bytes e = IsRefused rfc5280_trust_anchor_choice (CheckRefuses rfc5280_serial_number) bytes e

-- the one extension with the identifier gives no value: there are several, or its octets are refused
abbrev pub RefusesValue : {X : Type 0} → Form X → List ℕ → List Extension → ErrorKind → Type 0
RefusesValue form oid extensions e =
    ((2 ≤ length (with_oid oid extensions)) × (e ≡ Failed))
    ⊎ ((x : Extension) × (with_oid oid extensions ≡ x ∷ []) × IsRefused form (λ k. ⊥) x.extn_value e)

-- the one extension with the identifier gives a value, or there is none
abbrev pub GivesValue : {X : Type 0} → Form X → List ℕ → List Extension → Type 0
GivesValue {X} form oid extensions = (found : Option X) × IsValueOf form oid extensions found

-- one of the two extensions that set flags gives no value, and it is the first of them, in this order
abbrev pub RefusesFlags : List Extension → ErrorKind → Type 0
RefusesFlags extensions e =
    RefusesValue policy_constraints (id_ce 36) extensions e
    ⊎ (GivesValue policy_constraints (id_ce 36) extensions × RefusesValue inhibit_any_policy (id_ce 54) extensions e)

-- so of the five that limit paths
abbrev pub RefusesLimits : List Extension → ErrorKind → Type 0
RefusesLimits extensions e =
    RefusesValue name_constraints (id_ce 30) extensions e
    ⊎ (GivesValue name_constraints (id_ce 30) extensions × (RefusesValue basic_constraints (id_ce 19) extensions e
    ⊎ (GivesValue basic_constraints (id_ce 19) extensions × (RefusesValue certificate_policies (id_ce 32) extensions e
    ⊎ (GivesValue certificate_policies (id_ce 32) extensions × RefusesFlags extensions e)))))

-- a certificate has no name; else what its extensions say is refused
abbrev pub RefusesSigned : TbsCertificateInner Rfc5280 → ErrorKind → Type 0
RefusesSigned signed e = ((e ≡ Failed) × (signed.subject ≡ [])) ⊎ ((signed.subject ≢ []) × RefusesLimits (members signed.extensions) e)

-- the certificate in a description is of another anchor, or one of its extensions gives no value
abbrev pub RefusesItsCertificate : TrustAnchorInfo Rfc5280 → CertPathControls Rfc5280 → Option Certificate → ErrorKind → Type 0
RefusesItsCertificate info controls None e = ⊥
RefusesItsCertificate info controls (Some c) e =
    ((e ≡ Failed) × (IsCertificateOf info controls.ta_name c.tbs_certificate → ⊥))
    ⊎ (RefusesValue subject_key_identifier (id_ce 14) (extensions_of c) e ⊎ RefusesLimits (extensions_of c) e)

-- so of a description; or it has no name, or an empty one, or an extension that may not be left
abbrev pub RefusesInfo : TrustAnchorInfo Rfc5280 → ErrorKind → Type 0
RefusesInfo info e =
    ((e ≡ Failed) × ((controls : CertPathControls Rfc5280) → info.cert_path ≡ Some controls
    → (controls.ta_name ≡ []) ⊎ (All (λ x. MayBeLeft x) (members info.extensions) → ⊥)))
    ⊎ ((controls : CertPathControls Rfc5280) × (info.cert_path ≡ Some controls) × RefusesItsCertificate info controls controls.certificate e)

-- why nothing is trusted of an anchor
abbrev pub RefusesAnchor : TrustAnchorChoice Rfc5280 → ErrorKind → Type 0
RefusesAnchor (Whole c) e = RefusesSigned c.tbs_certificate e
RefusesAnchor (TbsCertificate signed) e = RefusesSigned signed e
RefusesAnchor (TaInfo info) e = RefusesInfo info e

-- Why nothing is made of what is trusted: out of memory; or nothing is trusted, and refuses says why; or a part of what is trusted is too long, as
-- none is of an anchor that was decoded.
abbrev pub RefusesTrust : (Trust → Type 0) → (ErrorKind → Type 0) → ErrorKind → Type 0
RefusesTrust is_trust refuses e =
    (e ≡ Memory)
    ⊎ ((((trust : Trust) → is_trust trust → ⊥) × refuses e) ⊎ ((e ≡ Overlength) × ((trust : Trust) × is_trust trust × IsOverlong trust)))

-- the bytes are those of a trust anchor of which nothing is trusted
abbrev pub IsUntrusted : List ℕ → ErrorKind → Type 0
IsUntrusted bytes e =
    (anchor : TrustAnchorChoice Rfc5280) × Spells rfc5280_trust_anchor_choice anchor bytes × ((trust : Trust) → IsTrustOfAnchor anchor trust → ⊥) × RefusesAnchor anchor e

-- ---- tools of the proofs

-- an encoding is refused: out of memory, or it would be longer than an element may be
abbrev pub RefusesEncoding : {X : Type 0} → Form X → X → ErrorKind → Type 0
RefusesEncoding form value e = (e ≡ Memory) ⊎ ((e ≡ Overlength) × (limit < length (spelling form value)))

-- the same of an encoding that may be absent
abbrev pub RefusesOption : {X : Type 0} → Form X → Option X → ErrorKind → Type 0
RefusesOption form None e = ⊥
RefusesOption form (Some value) e = RefusesEncoding form value e

-- the limits that the certificate in a description gives are refused
abbrev pub RefusesOwnLimits : Option Certificate → ErrorKind → Type 0
RefusesOwnLimits None e = ⊥
RefusesOwnLimits (Some c) e = RefusesLimits (extensions_of c) e

-- the octets are those of the value of the one extension with the identifier
abbrev pub LendsOwn : {T : Type 0} → Form T → List ℕ → List Extension → Option (Bor (List ℕ)) → Type 0
LendsOwn {T} form oid extensions lent = (value : Option T) × IsValueOf form oid extensions value × SpellsOption (λ octets. octets.now) form lent value

abbrev pub HasNoValue : {T : Type 0} → Form T → List ℕ → List Extension → Type 0
HasNoValue {T} form oid extensions = (found : Option T) → IsValueOf form oid extensions found → ⊥

abbrev pub HasNoFlags : List Extension → Type 0
HasNoFlags extensions = (flags : AnchorFlags) → AreFlags extensions flags → ⊥
