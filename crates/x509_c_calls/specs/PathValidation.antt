-- What a call leaves that validates a path of certificates apart from their signatures (RFC 5280 6.1).
use Rattle.std.specs.Int.{from_le_bytes, to_le_bytes, w64}
use Rattle.std.specs.List.{All, AllZip, list_all}
use Rattle.std.specs.Prelude.{◌≡◌, ◌≢◌, ◌==◌, ◌<◌, ◌≤◌, ◌+◌, ◌*◌, ◌/◌, ◌%◌, ◌^◌, ◌⊎◌, ℕ, false, true, cond, not, List, [], ◌∷◌, ◌++◌, drop, length, slice_index, take, Option, Some, None}
use Rattle.x509_base.specs.CivilTime.{IsDateTime, last_date_time, unix_seconds}
use Rattle.x509_base.specs.SubjectPublicKeyInfo.{subject_public_key_info}
use Rattle.x509_base.specs.declared.profile.Rfc5280.{Rfc5280}
use Rattle.x509_c_calls.specs.PayloadExtensions.{flag}
use Rattle.x509_c_calls.specs.Pieces.{AreCut}
use Rattle.x509_c_calls.specs.Place.{IsAt}
use Rattle.x509_c_calls.specs.Signature.{IsSignature}
use Rattle.x509_c_calls.specs.Status.{IsPut}
use Rattle.x509_c_calls.specs.View.{IsView, behind_key, behind_subject}
use Rattle.x509_c_calls.specs.declared.path.answer.PathAnswer.{PathAnswer}
use Rattle.x509_c_calls.specs.declared.path.question.PathQuestion.{PathQuestion}
use Rattle.x509_c_calls.specs.declared.path.settings.AskedSettings.{AskedSettings}
use Rattle.x509_c_calls.specs.declared.path.views.PathCertificate.{PathCertificate}
use Rattle.x509_c_calls.specs.declared.status.status.Status.{Status}
use Rattle.x509_c_calls.specs.declared.status.status.Status.TheVariants as statuses
use Rattle.x509_cert.specs.Certificate.{rfc5280_certificate}
use Rattle.x509_cert.specs.TrustAnchorChoice.{rfc5280_trust_anchor_choice}
use Rattle.x509_cert.specs.declared.anchor.trust_anchor_choice.TrustAnchorChoice.{TrustAnchorChoice}
use Rattle.x509_der.specs.Element.{element, limit}
use Rattle.x509_der.specs.Form.{Form, Spells, spelling}
use Rattle.x509_der.specs.List.{joined}
use Rattle.x509_der.specs.declared.error.ErrorKind.{ErrorKind}
use Rattle.x509_der.specs.declared.error.ErrorKind.TheVariants as kinds
use Rattle.x509_ext.specs.CertificatePolicies.{certificate_policies}
use Rattle.x509_ext.specs.Identifiers.{id_pkix}
use Rattle.x509_ext.specs.NameConstraints.{name_constraints}
use Rattle.x509_ext.specs.declared.pkix.certificate_policies.CertificatePolicies.{CertificatePolicies}
use Rattle.x509_ext.specs.declared.pkix.name_constraints.NameConstraints.{NameConstraints}
use Rattle.x509_name.specs.Names.{name}
use Rattle.x509_path.specs.Certificates.{Certificate, accept_all}
use Rattle.x509_path.specs.declared.anchor.Anchor.{Anchor}
use Rattle.x509_path_steps.specs.Inputs.{Inputs, Trust, uses_of}
use Rattle.x509_path_steps.specs.Says.{identifiers}
use Rattle.x509_path_steps.specs.Trusts as trusts
use Rattle.x509_path_steps.specs.Trusts.{IsTrustOf, IsTrustOfAnchor}
use Rattle.x509_path_steps.specs.Validation.{AreUnusable, IsFirstFault, IsUnder, PathIsValid}
use Rattle.x509_path_steps.specs.declared.settings.PathSettings.{PathSettings}
use Rattle.x509_path_steps.specs.declared.validation_fault.ValidationReason.{ValidationReason}
use Rattle.x509_path_steps.specs.declared.validation_fault.ValidationReason.TheVariants.{Decode, Algorithm, Issuer, Moment, Signature, Repeated, Critical, Extension, NotCa, KeyUsage, PathLen, Names, Constraints, RepeatedPolicy, Policy as NoPolicy, PolicyMapping, Version, Usage, Purpose}
use Rattle.x509_policy.specs.Values.{Policy, Settings, any_policy}
use Rattle.x509_types.specs.Reencoding.{IsRefused}

-- the number of a reason: that of Paths.antt, and further ones behind these
abbrev pub validation_code : ValidationReason → ℕ
validation_code Decode = 1
validation_code Algorithm = 2
validation_code Issuer = 3
validation_code Moment = 4
validation_code Signature = 5
validation_code Repeated = 6
validation_code Critical = 7
validation_code NotCa = 8
validation_code KeyUsage = 9
validation_code PathLen = 10
validation_code Extension = 11
validation_code Names = 12
validation_code Constraints = 13
validation_code RepeatedPolicy = 14
validation_code NoPolicy = 15
validation_code PolicyMapping = 16
validation_code Purpose = 17
validation_code Usage = 18
validation_code Version = 19

-- ---- what is asked

-- a time in seconds and a number of flags, each of eight octets, the lowest first, and behind them zeros
pub record AreSettings (octets : List ℕ) (seconds flags : ℕ) : Type 0 where
  pub behind : List ℕ
  pub are : octets ≡ to_le_bytes w64 seconds ++ to_le_bytes w64 flags ++ behind
  pub zeros : All (λ octet. octet ≡ 0) behind
  pub seconds_fit : seconds < 2 ^ 64
  pub flags_fit : flags < 2 ^ 64

-- the number of eight octets from a place on, the lowest first; those that aren't there are zeros
abbrev pub number_in : List ℕ → ℕ → ℕ
number_in octets place =
    from_le_bytes w64 (slice_index octets place ∷ slice_index octets (place + 1) ∷ slice_index octets (place + 2) ∷ slice_index octets (place + 3)
    ∷ slice_index octets (place + 4) ∷ slice_index octets (place + 5) ∷ slice_index octets (place + 6) ∷ slice_index octets (place + 7) ∷ [])

-- a number for each: a time in seconds, flags, the bits of a KeyUsage, known purposes, and how many octets another purpose has, which follow
abbrev pub seconds_in : List ℕ → ℕ
seconds_in octets = number_in octets 0

abbrev pub flags_in : List ℕ → ℕ
flags_in octets = number_in octets 8

abbrev pub usage_in : List ℕ → ℕ
usage_in octets = number_in octets 16

abbrev pub purposes_in : List ℕ → ℕ
purposes_in octets = number_in octets 24

abbrev pub own_len_in : List ℕ → ℕ
own_len_in octets = number_in octets 32

abbrev pub own_purpose_in : List ℕ → List ℕ
own_purpose_in octets = take (own_len_in octets) (drop 40 octets)

-- the first two numbers are there, and behind 64 places for octets of a purpose stand zeros
pub record AreWhole (octets : List ℕ) : Type 0 where
  pub enough : 16 ≤ length octets
  pub zeros : list_all (λ octet. octet == 0) (drop 104 octets) ≡ true

-- a bit for each of the flags
abbrev pub flags_of : AskedSettings → ℕ
flags_of asked =
    flag asked.explicit_policy + (2 * flag asked.inhibit_policy_mapping + (4 * flag asked.inhibit_any_policy
    + (8 * flag asked.is_unchained + (16 * flag asked.allows_version_1 + 32 * flag asked.constrain_common_names))))

-- what the settings ask for, apart from another purpose
pub record HasSettings (octets : List ℕ) (asked : AskedSettings) : Type 0 where
  pub whole : AreWhole octets
  pub real : IsDateTime asked.moment
  pub at : unix_seconds asked.moment ≡ seconds_in octets
  pub flags : flags_of asked ≡ flags_in octets
  pub usage : asked.key_usage.0.0 ≡ usage_in octets
  pub purposes : asked.purposes ≡ purposes_in octets

-- another purpose is longer than its places, or isn't there
abbrev pub LacksOwnPurpose : List ℕ → Type 0
LacksOwnPurpose octets = (64 < own_len_in octets) ⊎ ((0 < own_len_in octets) × (length octets < 40 + own_len_in octets))

-- they are no settings, have another flag, bit or purpose, or are those of a moment after the year 9999
abbrev pub HasNoSettings : List ℕ → Type 0
HasNoSettings octets =
    (AreWhole octets → ⊥)
    ⊎ ((unix_seconds last_date_time < seconds_in octets)
    ⊎ ((64 ≤ flags_in octets) ⊎ ((512 ≤ usage_in octets) ⊎ ((64 ≤ purposes_in octets) ⊎ LacksOwnPurpose octets))))

-- serverAuth, clientAuth, codeSigning, emailProtection, timeStamping and OCSPSigning (4.2.1.12)
abbrev pub known_purposes : List (List ℕ)
known_purposes = id_pkix 3 1 ∷ id_pkix 3 2 ∷ id_pkix 3 3 ∷ id_pkix 3 4 ∷ id_pkix 3 8 ∷ id_pkix 3 9 ∷ []

-- those of which the number has the bit, in the order of the bits
abbrev pub named_purposes : ℕ → List (List ℕ) → List (List ℕ)
named_purposes number [] = []
named_purposes number (purpose ∷ purposes) = cond (number % 2 == 1) (purpose ∷ named_purposes (number / 2) purposes) (named_purposes (number / 2) purposes)

abbrev pub own_purposes : List ℕ → List (List ℕ)
own_purposes [] = []
own_purposes (octet ∷ octets) = (octet ∷ octets) ∷ []

-- no purposes ask for none
abbrev pub unless_none : List (List ℕ) → Option (List (List ℕ))
unless_none [] = None
unless_none (purpose ∷ purposes) = Some (purpose ∷ purposes)

abbrev pub all_purposes : AskedSettings → List ℕ → List (List ℕ)
all_purposes asked own = named_purposes asked.purposes known_purposes ++ own_purposes own

-- the settings as those of a path, where nothing is lent
abbrev pub bare_settings : AskedSettings → PathSettings
bare_settings asked = record {
  moment = asked.moment;
  name_constraints = None;
  user_initial_policy_set = None;
  initial_policy_mapping_inhibit = asked.inhibit_policy_mapping;
  initial_explicit_policy = asked.explicit_policy;
  initial_any_policy_inhibit = asked.inhibit_any_policy;
  purposes = None;
  is_chained = not asked.is_unchained;
  key_usage = asked.key_usage;
  allows_version_1 = asked.allows_version_1;
  constrain_common_names = asked.constrain_common_names;
}

-- no octets are no constraints
abbrev pub AreConstraints : List ℕ → Option NameConstraints → Type 0
AreConstraints octets None = octets ≡ []
AreConstraints octets (Some constraints) = Spells name_constraints constraints octets

-- no octets are no policies
abbrev pub AreNamed : List ℕ → Option CertificatePolicies → Type 0
AreNamed octets None = octets ≡ []
AreNamed octets (Some policies) = Spells certificate_policies policies octets

-- where none are named, any policy is accepted
abbrev pub set_of : Option CertificatePolicies → List Policy
set_of None = any_policy ∷ []
set_of (Some policies) = identifiers policies

-- what the settings and the policies of the question ask for (RFC 5280 6.1.1 (c), (e), (f), (g))
abbrev pub policies_asked : AskedSettings → Option CertificatePolicies → Settings
policies_asked asked named = record {
  user_initial_policy_set = set_of named;
  initial_policy_mapping_inhibit = asked.inhibit_policy_mapping;
  initial_explicit_policy = asked.explicit_policy;
  initial_any_policy_inhibit = asked.inhibit_any_policy;
}

-- what the question asks of a path under what is trusted
pub record Asks (question : PathQuestion) (trusted : Trust) (inputs : Inputs) (path : List (List ℕ)) : Type 0 where
  pub trust : inputs.trust ≡ trusted
  pub constraints : AreConstraints question.name_constraints.now inputs.constraints
  pub settings : AskedSettings
  pub has_settings : HasSettings question.settings.now settings
  pub moment : inputs.moment ≡ settings.moment
  pub named : Option CertificatePolicies
  pub are_named : AreNamed question.policies.now named
  pub policies : inputs.asked ≡ policies_asked settings named
  pub purposes : inputs.purposes ≡ unless_none (all_purposes settings (own_purpose_in question.settings.now))
  pub uses : inputs.uses ≡ uses_of (bare_settings settings)
  pub cut : AreCut question.path.now question.lens.now path

-- there are octets, and they are refused as a value of the form
abbrev pub IsRefusedUnlessEmpty : {T : Type 0} → Form T → (ErrorKind → Type 0) → List ℕ → ErrorKind → Type 0
IsRefusedUnlessEmpty form refuses octets e = (octets ≢ []) × IsRefused form refuses octets e

-- why nothing is asked. The first two are the errors that a NameConstraints and a CertificatePolicies have of their own in reading.
abbrev pub AsksNothing : (ErrorKind → Type 0) → (ErrorKind → Type 0) → PathQuestion → ErrorKind → Type 0
AsksNothing constraints policies question e =
    (e ≡ kinds.Memory)
    ⊎ (((e ≡ kinds.Value) × HasNoSettings question.settings.now)
    ⊎ (((e ≡ kinds.Failed) × ((path : List (List ℕ)) → AreCut question.path.now question.lens.now path → ⊥))
    ⊎ (IsRefusedUnlessEmpty name_constraints constraints question.name_constraints.now e
    ⊎ IsRefusedUnlessEmpty certificate_policies policies question.policies.now e)))

-- ---- what is answered

-- where the subject and the key of a certificate stand in its bytes
pub record IsSubject (bytes : List ℕ) (certificate : Certificate) (answer : PathAnswer) : Type 0 where
  pub no_place : answer.place ≡ 0
  pub no_reason : answer.reason ≡ 0
  pub name : IsAt (spelling name certificate.tbs_certificate.subject) (behind_subject certificate) bytes answer.name
  pub key : IsAt (spelling subject_public_key_info certificate.tbs_certificate.subject_public_key_info) (behind_key certificate) bytes answer.key

-- the same of the last certificate of a path
abbrev pub IsSubjectOfLast : List (List ℕ) → PathAnswer → Type 0
IsSubjectOfLast path answer =
    (above : List (List ℕ)) × (bytes : List ℕ) × (certificate : Certificate)
    × (path ≡ above ++ bytes ∷ []) × Spells rfc5280_certificate certificate bytes × IsSubject bytes certificate answer

-- the encodings of the PolicyInformation of a policy and of the CertificatePolicies of several, without qualifiers (4.2.1.4)
abbrev pub policy_octets : Policy → List ℕ
policy_octets policy = element 48 (element 6 policy)

abbrev pub policies_octets : List Policy → List ℕ
policies_octets policies = element 48 (joined policy_octets policies)

-- how many octets there are, and where they fit, they are in the buffer
pub record AreTold (octets room filled : List ℕ) (count : ℕ) : Type 0 where
  pub counted : count ≡ length octets
  pub put : IsPut octets room filled

-- the number of a reason at that place, and nothing else
pub record IsFault (at : ℕ) (what : ValidationReason) (answer : PathAnswer) : Type 0 where
  pub place : answer.place ≡ at
  pub reason : answer.reason ≡ validation_code what
  pub name : answer.name ≡ record { place = 0; len = 0 }
  pub key : answer.key ≡ record { place = 0; len = 0 }
  pub policies_len : answer.policies_len ≡ 0

-- what a certificate in these bytes says, and what is to be verified of it
abbrev pub IsCertificateOf : List ℕ → PathCertificate → Type 0
IsCertificateOf bytes found =
    (certificate : Certificate) × Spells rfc5280_certificate certificate bytes × IsView bytes certificate found.view
    × IsSignature bytes certificate found.signature

-- what is filled into places of the certificates of a path: each, where all fit, else none
abbrev pub PutsCertificates : List (List ℕ) → List PathCertificate → List PathCertificate → Type 0
PutsCertificates path was is =
    (length was < length path → is ≡ was)
    × (length path ≤ length was
    → (found : List PathCertificate) × AllZip IsCertificateOf path found × (is ≡ found ++ drop (length found) was))

-- what a call leaves: the buffer, the answer, and the places of certificates
pub record Left : Type 0 where
  pub room : List ℕ
  pub answer : PathAnswer
  pub certificates : List PathCertificate

-- What is left of a path of these inputs, where all bits are taken for signatures. Done: it is valid, and what it gives is filled in. Faulty: its first
-- fault is. Absent: there is no certificate. Else the constraints of the caller or of what is trusted can't be used, the policies are too long, or memory
-- was refused.
unfoldable pub TellsValidation : Inputs → List (List ℕ) → Left → Left → Status → Type 0
TellsValidation inputs path was is statuses.Done =
    PathIsValid accept_all inputs path × IsSubjectOfLast path is.answer
    × PutsCertificates path was.certificates is.certificates
    × (found : List Policy) × IsUnder inputs path found × AreTold (policies_octets found) was.room is.room is.answer.policies_len
TellsValidation inputs path was is statuses.Faulty =
    (place : ℕ) × (reason : ValidationReason) × (AreUnusable inputs → ⊥) × IsFirstFault accept_all inputs path place reason
    × IsFault place reason is.answer × (is.room ≡ was.room) × (is.certificates ≡ was.certificates)
TellsValidation inputs path was is statuses.Absent = (path ≡ []) × (is ≡ was)
TellsValidation inputs path was is (statuses.Refused e) =
    ((e ≡ kinds.Memory)
    ⊎ (((e ≡ kinds.Value) × AreUnusable inputs)
    ⊎ ((e ≡ kinds.Overlength) × (found : List Policy) × IsUnder inputs path found × (limit < length (policies_octets found)))))
    × (is ≡ was)
TellsValidation inputs path was is statuses.NoRoom = ⊥
TellsValidation inputs path was is statuses.Repeated = ⊥
TellsValidation inputs path was is statuses.Limit = ⊥

-- what a call leaves that is asked this under what is trusted
unfoldable pub Validates : (ErrorKind → Type 0) → (ErrorKind → Type 0) → PathQuestion → Trust → Left → Left → Status → Type 0
Validates constraints policies question trust was is status =
    ((inputs : Inputs) × (path : List (List ℕ)) × Asks question trust inputs path × TellsValidation inputs path was is status)
    ⊎ ((e : ErrorKind) × (status ≡ statuses.Refused e) × (is ≡ was) × AsksNothing constraints policies question e)

-- ---- what is trusted

-- the certificate's bytes are refused, or it has no name, or its extensions say nothing that can be followed
abbrev pub IsUntrusted : (ErrorKind → Type 0) → List ℕ → ErrorKind → Type 0
IsUntrusted refuses anchor e =
    IsRefused rfc5280_certificate refuses anchor e
    ⊎ ((c : Certificate) × Spells rfc5280_certificate c anchor × ((trust : Trust) → IsTrustOf c.tbs_certificate trust → ⊥)
    × trusts.RefusesSigned c.tbs_certificate e)

-- what a call leaves that is asked it under the certificate of an anchor
unfoldable pub ValidatesUnderCertificate :
    (ErrorKind → Type 0) → (ErrorKind → Type 0) → (ErrorKind → Type 0) → List ℕ → PathQuestion → Left → Left → Status → Type 0
ValidatesUnderCertificate certificates constraints policies anchor question was is status =
    ((c : Certificate) × (trust : Trust) × Spells rfc5280_certificate c anchor × IsTrustOf c.tbs_certificate trust
    × Validates constraints policies question trust was is status)
    ⊎ ((e : ErrorKind) × (status ≡ statuses.Refused e) × (is ≡ was) × IsUntrusted certificates anchor e)

-- the name or the key is refused
abbrev pub IsNoAnchor : (ErrorKind → Type 0) → (ErrorKind → Type 0) → List ℕ → List ℕ → ErrorKind → Type 0
IsNoAnchor names keys anchor_name key e = IsRefused name names anchor_name e ⊎ IsRefused subject_public_key_info keys key e

-- a name and a key that are trusted for all paths
abbrev pub trust_in : Anchor → Trust
trust_in anchor = record {
  anchor = anchor;
  constraints = None;
  max_path_length = None;
  policies = None;
  flags = record { inhibit_policy_mapping = false; require_explicit_policy = false; inhibit_any_policy = false };
}

-- what a call leaves that is asked it under a name and a key
unfoldable pub ValidatesUnderKey :
    (ErrorKind → Type 0) → (ErrorKind → Type 0) → (ErrorKind → Type 0) → (ErrorKind → Type 0) → List ℕ → List ℕ → PathQuestion → Left → Left → Status → Type 0
ValidatesUnderKey names keys constraints policies anchor_name key question was is status =
    ((anchor : Anchor) × Spells name anchor.name anchor_name × Spells subject_public_key_info anchor.key key
    × Validates constraints policies question (trust_in anchor) was is status)
    ⊎ ((e : ErrorKind) × (status ≡ statuses.Refused e) × (is ≡ was) × IsNoAnchor names keys anchor_name key e)

-- what a call leaves that is asked it under a trust anchor
unfoldable pub ValidatesUnderAnchor : (ErrorKind → Type 0) → (ErrorKind → Type 0) → List ℕ → PathQuestion → Left → Left → Status → Type 0
ValidatesUnderAnchor constraints policies bytes question was is status =
    ((anchor : TrustAnchorChoice Rfc5280) × (trust : Trust) × Spells rfc5280_trust_anchor_choice anchor bytes × IsTrustOfAnchor anchor trust
    × Validates constraints policies question trust was is status)
    ⊎ ((e : ErrorKind) × (status ≡ statuses.Refused e) × (is ≡ was) × ((e ≡ kinds.Memory) ⊎ (trusts.IsNoAnchor bytes e ⊎ trusts.IsUntrusted bytes e)))
