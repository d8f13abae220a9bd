-- Validation of paths, topmost certificate first (RFC 5280 6.1): which fault stands at which place, and what is answered. Names are compared
-- as they match (7.1), name constraints hold, and policies are followed.
use Rattle.std.specs.Borrow.{Bor}
use Rattle.std.specs.Prelude.{◌≡◌, ◌≢◌, ◌<◌, ◌==◌, ◌+◌, ◌⊎◌, ◌↔◌, ℕ, suc, length, map, Bool, true, false, List, [], ◌∷◌, ◌++◌, Option, Some, None, Contains, Result, Ok, Err}
use Rattle.std.specs.List.{All, AllZip}
use Rattle.std.specs.Int.RustNames.{bit_and}
use Rattle.x509_cert.specs.Certificate.{rfc5280_certificate}
use Rattle.x509_cert.specs.declared.certificate.version.Version.TheVariants.{V1, V3}
use Rattle.x509_constraints.specs.Constraints.{IsAllowedBy, IsUsable, names_asked}
use Rattle.x509_der.specs.Any.{any}
use Rattle.x509_der.specs.Form.{Form, Spells}
use Rattle.x509_ext.specs.AlternativeNames.{subject_alt_name}
use Rattle.x509_ext.specs.BasicConstraints.{basic_constraints}
use Rattle.x509_ext.specs.CertificatePolicies.{certificate_policies}
use Rattle.x509_ext.specs.ExtendedKeyUsage.{extended_key_usage}
use Rattle.x509_ext.specs.Identifiers.{id_ce}
use Rattle.x509_ext.specs.InhibitAnyPolicy.{inhibit_any_policy}
use Rattle.x509_ext.specs.KeyUsage.{key_usage}
use Rattle.x509_ext.specs.LookUp.{IsRepeated}
use Rattle.x509_ext.specs.NameConstraints.{name_constraints}
use Rattle.x509_ext.specs.PolicyConstraints.{policy_constraints}
use Rattle.x509_ext.specs.PolicyMapping.{policy_mappings}
use Rattle.x509_ext.specs.declared.extension.Extension.{Extension}
use Rattle.x509_ext.specs.declared.pkix.alternative_names.SubjectAltName.{SubjectAltName}
use Rattle.x509_ext.specs.declared.pkix.extended_key_usage.ExtendedKeyUsage.{ExtendedKeyUsage}
use Rattle.x509_ext.specs.declared.pkix.key_usage.KeyUsage as usages
use Rattle.x509_ext.specs.declared.pkix.name_constraints.NameConstraints.{NameConstraints}
use Rattle.x509_match.specs.Matching.{NamesMatch}
use Rattle.x509_path.specs.Certificates as certificates
use Rattle.x509_path.specs.Certificates.{Accepting, Certificate, HasPayload, IsOver, IsSelfIssued, IsTooLong, extensions_of}
use Rattle.x509_path.specs.Lent.{LendsAnchor}
use Rattle.x509_path.specs.Path.{Faults, HasFaultBehind, IsFaultBy, IsFirst, is_empty, subject_of}
use Rattle.x509_path.specs.declared.anchor.Anchor.{Anchor}
use Rattle.x509_path_steps.specs.CommonNames.{IsCommonNameAllowed}
use Rattle.x509_path_steps.specs.Inputs.{Inputs, SpellsOption}
use Rattle.x509_path_steps.specs.Keys.{key_behind, parameters_of}
use Rattle.x509_path_steps.specs.Policies.{AreRefused, AreSettings}
use Rattle.x509_path_steps.specs.Says.{Say}
use Rattle.x509_path_steps.specs.declared.validated.Validated.{Validated}
use Rattle.x509_path_steps.specs.declared.validation_fault.ValidationFault.{ValidationFault}
use Rattle.x509_path_steps.specs.declared.validation_fault.ValidationFault.TheVariants.{Memory, Empty, Initial, At}
use Rattle.x509_path_steps.specs.declared.validation_fault.ValidationReason.{ValidationReason}
use Rattle.x509_path_steps.specs.declared.validation_fault.ValidationReason.TheVariants.{Decode, Algorithm, Issuer, Moment, Signature, Repeated, Critical, Extension as Undecodable, NotCa, KeyUsage, PathLen, Names, Constraints, RepeatedPolicy, Policy as NoPolicy, PolicyMapping as MapsAnyPolicy, Version as OtherVersion, Usage as OtherUsage, Purpose as OtherPurpose}
use Rattle.x509_policy.specs.Follows.{IsOutcome}
use Rattle.x509_policy.specs.Levels.{In}
use Rattle.x509_policy.specs.Path as refusals
use Rattle.x509_policy.specs.Path.{Valid}
use Rattle.x509_policy.specs.Values as policies
use Rattle.x509_policy.specs.Values.{Policy, Settings}
use Rattle.x509_policy.specs.Views.{octets_of}

-- ---- extensions (RFC 5280 4.2)

-- BasicConstraints, KeyUsage, SubjectAltName or NameConstraints; ExtendedKeyUsage where a purpose is asked for
abbrev pub IsOfUse : Bool → Extension → Type 0
IsOfUse asks_purpose e =
    (e.extn_id ≡ id_ce 19) ⊎ ((e.extn_id ≡ id_ce 15) ⊎ ((e.extn_id ≡ id_ce 17) ⊎ ((e.extn_id ≡ id_ce 30) ⊎ ((asks_purpose ≡ true) × (e.extn_id ≡ id_ce 37)))))

-- CertificatePolicies, PolicyMappings, PolicyConstraints or InhibitAnyPolicy
abbrev pub IsAboutPolicies : Extension → Type 0
IsAboutPolicies e = (e.extn_id ≡ id_ce 32) ⊎ ((e.extn_id ≡ id_ce 33) ⊎ ((e.extn_id ≡ id_ce 36) ⊎ (e.extn_id ≡ id_ce 54)))

abbrev pub IsProcessed : Bool → Extension → Type 0
IsProcessed asks_purpose e = IsOfUse asks_purpose e ⊎ IsAboutPolicies e

-- each critical extension is processed (6.1.4 (o), 6.1.5 (f))
abbrev pub AreProcessed : Bool → List Extension → Type 0
AreProcessed asks_purpose extensions = All (λ e. e.critical ≡ true → IsProcessed asks_purpose e) extensions

-- if it has the identifier, its octets spell a value
abbrev pub IsSpelled : {T : Type 0} → Form T → List ℕ → Extension → Type 0
IsSpelled {T} form oid e = e.extn_id ≡ oid → ((value : T) × Spells form value e.extn_value)

-- it can be read, if it says what the certificate is for, and which names it and those below it may have
abbrev pub IsUseSpelled : Extension → Type 0
IsUseSpelled e =
    IsSpelled basic_constraints (id_ce 19) e × (IsSpelled key_usage (id_ce 15) e × (IsSpelled extended_key_usage (id_ce 37) e
    × (IsSpelled subject_alt_name (id_ce 17) e × IsSpelled name_constraints (id_ce 30) e)))

-- it can be read, if it is about policies
abbrev pub IsPolicySpelled : Extension → Type 0
IsPolicySpelled e =
    IsSpelled certificate_policies (id_ce 32) e × (IsSpelled policy_mappings (id_ce 33) e
    × (IsSpelled policy_constraints (id_ce 36) e × IsSpelled inhibit_any_policy (id_ce 54) e))

abbrev pub IsDecodable : Extension → Type 0
IsDecodable e = IsUseSpelled e × IsPolicySpelled e

-- each extension of a type that is looked at can be read, whether it is critical or not
abbrev pub AreSpelled : List Extension → Type 0
AreSpelled extensions = All (λ e. IsDecodable e) extensions

-- ---- names (4.2.1.10)

-- the constraints are those of the certificate
abbrev pub HasConstraints : Certificate → NameConstraints → Type 0
HasConstraints c constraints = HasPayload name_constraints (id_ce 30) (extensions_of c) constraints

-- The constraints apply behind these certificates: they are what is trusted's, the caller's, or those of one of the certificates (6.1.2 (b),
-- (c), 6.1.4 (g)).
abbrev pub Apply : Inputs → List Certificate → NameConstraints → Type 0
Apply inputs before constraints =
    (inputs.trust.constraints ≡ Some constraints)
    ⊎ ((inputs.constraints ≡ Some constraints) ⊎ ((c : Certificate) × Contains before c × HasConstraints c constraints))

-- the names are those of the one SubjectAltName that can be read, none where there isn't one
abbrev pub HasAlternativeNames : Certificate → Option SubjectAltName → Type 0
HasAlternativeNames c found = (names : SubjectAltName) → HasPayload subject_alt_name (id_ce 17) (extensions_of c) names ↔ (found ≡ Some names)

-- the names of the certificate are within what the constraints permit, and not within what they exclude
abbrev pub IsAllowed : NameConstraints → Certificate → Type 0
IsAllowed constraints c =
    (names : Option SubjectAltName) → HasAlternativeNames c names → All (IsAllowedBy constraints) (names_asked c.tbs_certificate.subject names)

-- the names of the certificate are allowed by all constraints that apply behind the others
abbrev pub AreNamesAllowed : Inputs → List Certificate → Certificate → Type 0
AreNamesAllowed inputs before c = (constraints : NameConstraints) → Apply inputs before constraints → IsAllowed constraints c

-- the certificate is asked for its names: it is the last one, or isn't self-issued
abbrev pub IsAsked : Bool → Certificate → Type 0
IsAsked is_last c = (is_last ≡ true) ⊎ (IsSelfIssued NamesMatch c → ⊥)

-- it is asked for them, and they aren't allowed
abbrev pub HasOtherNames : Inputs → List Certificate → Bool → Certificate → Type 0
HasOtherNames inputs before is_last c = IsAsked is_last c × (AreNamesAllowed inputs before c → ⊥)

-- the names of servers in its common names are allowed by all constraints that apply behind the others
abbrev pub AreCommonNamesAllowed : Inputs → List Certificate → Certificate → Type 0
AreCommonNamesAllowed inputs before c =
    (constraints : NameConstraints) → Apply inputs before constraints → (names : Option SubjectAltName) → HasAlternativeNames c names
    → All (λ rdn. All (λ a. IsCommonNameAllowed constraints names a) rdn) c.tbs_certificate.subject

-- it is the last one, the caller asks for them, and they aren't allowed
abbrev pub HasOtherCommonNames : Inputs → List Certificate → Bool → Certificate → Type 0
HasOtherCommonNames inputs before is_last c =
    (inputs.uses.constrain_common_names ≡ true) × ((is_last ≡ true) × (AreCommonNamesAllowed inputs before c → ⊥))

-- it has constraints that can't be used
abbrev pub HasUnusable : Certificate → Type 0
HasUnusable c = (constraints : NameConstraints) × HasConstraints c constraints × (IsUsable constraints → ⊥)

-- ---- what a certificate is for

-- anyExtendedKeyUsage, 2.5.29.37.0 (4.2.1.12)
abbrev pub any_purpose : List ℕ
any_purpose = id_ce 37 ++ 0 ∷ []

-- its extended key usage, if it has one, names the purpose or any (4.2.1.12)
abbrev pub AllowsPurpose : List ℕ → Certificate → Type 0
AllowsPurpose purpose c =
    (usage : ExtendedKeyUsage) → HasPayload extended_key_usage (id_ce 37) (extensions_of c) usage → In purpose usage.0 ⊎ In any_purpose usage.0

-- those that are asked for a purpose at a certificate behind others: where they are chained all of them, else the last one alone
abbrev pub asked_at : Bool → Bool → List Certificate → Certificate → List Certificate
asked_at true is_last before c = before ++ c ∷ []
asked_at false true before c = c ∷ []
asked_at false false before c = []

-- purposes are asked for, and none of them is allowed by each of these certificates
abbrev pub LackPurpose : Option (List (List ℕ)) → List Certificate → Type 0
LackPurpose None certificates = ⊥
LackPurpose (Some purposes) certificates = (purpose : List ℕ) → In purpose purposes → All (λ c. AllowsPurpose purpose c) certificates → ⊥

abbrev pub asks_purpose : Option (List (List ℕ)) → Bool
asks_purpose None = false
asks_purpose (Some purposes) = true

-- it has all bits of the other (4.2.1.3)
abbrev pub has_all : usages.KeyUsage → usages.KeyUsage → Bool
has_all usage asked = bit_and usage.0.0 asked.0.0 == asked.0.0

-- there is a KeyUsage without all of these bits
abbrev pub LacksUsage : usages.KeyUsage → List Extension → Type 0
LacksUsage asked extensions = (usage : usages.KeyUsage) × HasPayload key_usage (id_ce 15) extensions usage × (has_all usage asked ≡ false)

-- extensions in another version than 3 (4.1.2.9)
abbrev pub HasOtherVersion : Certificate → Type 0
HasOtherVersion c = (extensions_of c ≢ []) × (c.tbs_certificate.version ≢ V3)

-- one of version 3 by its BasicConstraints; one of version 1 where these are allowed (6.1.4 (k))
abbrev pub IsAuthority : Bool → Certificate → Type 0
IsAuthority allows_version_1 c =
    ((c.tbs_certificate.version ≡ V3) × certificates.IsCa (extensions_of c)) ⊎ ((allows_version_1 ≡ true) × (c.tbs_certificate.version ≡ V1))

-- ---- one certificate

-- where a certificate stands: under which name and key, behind which certificates of the path, whether as the last, and in a path of how many
-- certificates (n of RFC 5280 6.1)
pub record Standing : Type 0 where
  pub above : Anchor
  pub before : List Certificate
  pub is_last : Bool
  pub n : ℕ

-- What is wrong with a certificate of these bytes that stands there. The letters are those of RFC 5280 6.1.3 and 6.1.4.
abbrev pub Breaks : Accepting → Inputs → Standing → List ℕ → Certificate → ValidationReason → Type 0
Breaks accepts inputs standing bytes c Decode = ⊥
Breaks accepts inputs standing bytes c Algorithm = certificates.HasTwoAlgorithms c
-- 6.1.3 (a) (4)
Breaks accepts inputs standing bytes c Issuer = NamesMatch c.tbs_certificate.issuer standing.above.name → ⊥
-- 6.1.3 (a) (2)
Breaks accepts inputs standing bytes c Moment = certificates.IsOutside inputs.moment c.tbs_certificate.validity
-- 6.1.3 (a) (1)
Breaks accepts inputs standing bytes c Signature = certificates.IsSigned accepts (key_behind inputs.trust.anchor.key standing.before) bytes c → ⊥
Breaks accepts inputs standing bytes c Repeated = IsRepeated (extensions_of c)
-- 6.1.4 (o), 6.1.5 (f)
Breaks accepts inputs standing bytes c Critical = AreProcessed (asks_purpose inputs.purposes) (extensions_of c) → ⊥
Breaks accepts inputs standing bytes c Undecodable = AreSpelled (extensions_of c) → ⊥
-- 6.1.4 (k)
Breaks accepts inputs standing bytes c NotCa = (standing.is_last ≡ false) × (IsAuthority inputs.uses.allows_version_1 c → ⊥)
-- 6.1.4 (n)
Breaks accepts inputs standing bytes c KeyUsage = (standing.is_last ≡ false) × certificates.LacksKeyCertSign (extensions_of c)
-- 6.1.4 (l), (m)
Breaks accepts inputs standing bytes c PathLen =
    (standing.is_last ≡ false)
    × (IsOver NamesMatch inputs.trust.max_path_length (standing.before ++ c ∷ []) ⊎ IsTooLong NamesMatch (standing.before ++ c ∷ []))
-- 6.1.3 (b), (c)
Breaks accepts inputs standing bytes c Names =
    HasOtherNames inputs standing.before standing.is_last c ⊎ HasOtherCommonNames inputs standing.before standing.is_last c
-- 6.1.4 (g)
Breaks accepts inputs standing bytes c Constraints = (standing.is_last ≡ false) × HasUnusable c
-- 4.1.2.9
Breaks accepts inputs standing bytes c OtherVersion = HasOtherVersion c
-- 4.2.1.3
Breaks accepts inputs standing bytes c OtherUsage = (standing.is_last ≡ true) × LacksUsage inputs.uses.key_usage (extensions_of c)
-- 4.2.1.12
Breaks accepts inputs standing bytes c OtherPurpose = LackPurpose inputs.purposes (asked_at inputs.uses.is_chained standing.is_last standing.before c)
-- 4.2.1.4
Breaks accepts inputs standing bytes c RepeatedPolicy = AreRefused inputs standing.n standing.before c refusals.RepeatedPolicy
-- 6.1.3 (d), (e), (f), 6.1.4 (b), (h), (i), (j), 6.1.5 (a), (b), (g)
Breaks accepts inputs standing bytes c NoPolicy = AreRefused inputs standing.n standing.before c refusals.NoPolicy
-- 6.1.4 (a)
Breaks accepts inputs standing bytes c MapsAnyPolicy = AreRefused inputs standing.n standing.before c refusals.MapsAnyPolicy

-- the bytes that stand there are those of no certificate, or of one with which that is wrong
abbrev pub IsFault : Accepting → Inputs → Standing → List ℕ → ValidationReason → Type 0
IsFault accepts inputs standing bytes = IsFaultBy Decode (Breaks accepts inputs standing bytes) bytes

-- ---- a path

abbrev pub faults_at : Accepting → Inputs → Faults ValidationReason
faults_at accepts inputs above before bytes path =
    IsFault accepts inputs (record { above = above; before = before; is_last = is_empty path; n = length before + suc (length path) }) bytes

abbrev pub HasFault : Accepting → Inputs → List (List ℕ) → ℕ → ValidationReason → Type 0
HasFault accepts inputs path place reason = HasFaultBehind (faults_at accepts inputs) inputs.trust.anchor [] path place reason

-- constraints of what is trusted or of the caller can't be used
abbrev pub AreUnusable : Inputs → Type 0
AreUnusable inputs = (constraints : NameConstraints) × Apply inputs [] constraints × (IsUsable constraints → ⊥)

-- there is a certificate, the constraints at the start can be used, and no certificate has a fault
pub record PathIsValid (accepts : Accepting) (inputs : Inputs) (path : List (List ℕ)) : Type 0 where
  pub some : path ≢ []
  pub usable : AreUnusable inputs → ⊥
  pub no_fault : (place : ℕ) (reason : ValidationReason) → HasFault accepts inputs path place reason → ⊥

-- ---- the answer

-- the order in which faults of one certificate are told, behind Decode; last those of policies
abbrev pub own_reasons : List ValidationReason
own_reasons =
    Algorithm ∷ Issuer ∷ Moment ∷ Signature ∷ OtherVersion ∷ Repeated ∷ Undecodable ∷ Critical ∷ NotCa ∷ KeyUsage ∷ PathLen ∷ OtherUsage ∷ OtherPurpose
    ∷ Names ∷ Constraints ∷ []

abbrev pub reasons : List ValidationReason
reasons = own_reasons ++ RepeatedPolicy ∷ NoPolicy ∷ MapsAnyPolicy ∷ []

-- the lowest place that has a fault, and the first of its faults
pub record IsFirstFault (accepts : Accepting) (inputs : Inputs) (path : List (List ℕ)) (place : ℕ) (reason : ValidationReason) : Type 0 where
  pub first : IsFirst (Decode ∷ reasons) (HasFault accepts inputs path place) reason
  pub lowest : (p : ℕ) → p < place → (r : ValidationReason) → HasFault accepts inputs path p r → ⊥

-- the name and the key are those of the last certificate (6.1.6)
pub record IsOfLast (validated : Validated) (path : List (List ℕ)) : Type 0 where
  pub above : List (List ℕ)
  pub bytes : List ℕ
  pub certificate : Certificate
  pub last : path ≡ above ++ bytes ∷ []
  pub spells : Spells rfc5280_certificate certificate bytes
  pub lends : LendsAnchor validated.subject (subject_of certificate)

-- the inputs are those of the certificates
abbrev pub AreOf : List Certificate → List (List ℕ) → Type 0
AreOf = AllZip (λ c bytes. Spells rfc5280_certificate c bytes)

-- the path is valid under these policies, which are its user-constrained policy set (6.1.5 (g), 6.1.6)
pub record IsUnder (inputs : Inputs) (path : List (List ℕ)) (found : List Policy) : Type 0 where
  pub certificates : List Certificate
  pub said : List policies.Certificate
  pub settings : Settings
  pub are : AreOf certificates path
  pub say : Say certificates said
  pub at_start : AreSettings inputs settings
  pub outcome : IsOutcome settings said (Valid found)
  -- each stands there once
  pub once : policies.is_repeated found ≡ false

-- the parameters are those of the key that is used behind the certificates (6.1.6)
pub record AreParameters (inputs : Inputs) (path : List (List ℕ)) (parameters : Option (Bor (List ℕ))) : Type 0 where
  pub certificates : List Certificate
  pub are : AreOf certificates path
  pub lends : SpellsOption (λ lent. lent.now) any parameters (parameters_of (key_behind inputs.trust.anchor.key certificates))

-- what a valid path gives: also its certificates, lent
abbrev pub Gives : Inputs → List (List ℕ) → Validated → Type 0
Gives inputs path validated =
    IsOfLast validated path × (IsUnder inputs path (octets_of validated.policies.items)
    × (AreParameters inputs path validated.parameters × (map (λ certificate. certificate.bytes.now) validated.certificates.items ≡ path)))

-- What is answered to a path. Memory may be refused wherever there is an input.
abbrev pub Answers : Accepting → Inputs → List (List ℕ) → Result Validated ValidationFault → Type 0
Answers accepts inputs path (Ok validated) = PathIsValid accepts inputs path × Gives inputs path validated
Answers accepts inputs path (Err Memory) = path ≢ []
Answers accepts inputs path (Err Empty) = path ≡ []
Answers accepts inputs path (Err Initial) = (path ≢ []) × AreUnusable inputs
Answers accepts inputs path (Err (At place reason)) = (AreUnusable inputs → ⊥) × IsFirstFault accepts inputs path place reason

-- What is answered where nothing is lent that can be read: of a path that isn't empty it is Initial, and nothing else.
abbrev pub AnswersUnreadable : List (List ℕ) → Result Validated ValidationFault → Type 0
AnswersUnreadable [] result = result ≡ Err Empty
AnswersUnreadable (input ∷ inputs) result = result ≡ Err Initial
