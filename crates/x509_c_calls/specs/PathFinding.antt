-- What a call leaves that finds a path over candidates (RFC 5280 6.1), where it is listed which signatures don't hold.
use Rattle.std.specs.Cmp.Lexicographic.{pointwise}
use Rattle.std.specs.List.{All, AllZip, list_any, position_or_len}
use Rattle.std.specs.Prelude.{◌≡◌, ◌<◌, ◌⊎◌, ◌↔◌, ◌&&◌, ◌++◌, ◌∷◌, [], ℕ, Bool, true, false, not, nat_eq, List, length, map, Contains, Option, Some, None, Result, Ok, Err}
use Rattle.x509_base.specs.AlgorithmIdentifier.{algorithm_identifier}
use Rattle.x509_base.specs.SubjectPublicKeyInfo.{subject_public_key_info}
use Rattle.x509_base.specs.declared.subject_public_key_info.SubjectPublicKeyInfo.{SubjectPublicKeyInfo}
use Rattle.x509_c_calls.specs.PathValidation.{AreConstraints, AreNamed, AreTold, HasNoSettings, HasSettings, IsRefusedUnlessEmpty, IsUntrusted, all_purposes, bare_settings, own_purpose_in, policies_asked, unless_none, validation_code}
use Rattle.x509_c_calls.specs.RevocationStatus.{IsOutside, IsWithin, part_of}
use Rattle.x509_c_calls.specs.declared.path.find.Sought.{Sought}
use Rattle.x509_c_calls.specs.declared.path.links.BadSignature.{BadSignature}
use Rattle.x509_c_calls.specs.declared.path.search.BadLink.{BadLink}
use Rattle.x509_c_calls.specs.declared.path.search.FoundPath.{FoundPath}
use Rattle.x509_c_calls.specs.declared.path.search.PathSearch.{PathSearch}
use Rattle.x509_c_calls.specs.declared.path.settings.AskedSettings.{AskedSettings}
use Rattle.x509_c_calls.specs.declared.place.span.Span.{Span}
use Rattle.x509_c_calls.specs.declared.status.status.Status.{Status}
use Rattle.x509_c_calls.specs.declared.status.status.Status.TheVariants as statuses
use Rattle.x509_cert.specs.Certificate.{rfc5280_certificate}
use Rattle.x509_cert.specs.Signed.{IsSignedPart}
use Rattle.x509_der.specs.Form.{Spells, spelling}
use Rattle.x509_der.specs.declared.error.ErrorKind.{ErrorKind}
use Rattle.x509_der.specs.declared.error.ErrorKind.TheVariants as kinds
use Rattle.x509_ext.specs.CertificatePolicies.{certificate_policies}
use Rattle.x509_ext.specs.NameConstraints.{name_constraints}
use Rattle.x509_ext.specs.declared.pkix.certificate_policies.CertificatePolicies.{CertificatePolicies}
use Rattle.x509_ext.specs.declared.pkix.name_constraints.NameConstraints.{NameConstraints}
use Rattle.x509_path.specs.Certificates.{Accepting, Certificate, IsSigned}
use Rattle.x509_path_steps.specs.Inputs.{LendsConstraints, LendsTrust, Trust, asked_of, purposes_of, uses_of}
use Rattle.x509_path_steps.specs.Trusts.{IsTrustOf}
use Rattle.x509_path_steps.specs.declared.settings.PathSettings.{PathSettings}
use Rattle.x509_path_steps.specs.declared.trusted.Trusted.{Trusted}
use Rattle.x509_path_steps.specs.declared.validation_fault.ValidationFault.{ValidationFault}
use Rattle.x509_path_steps.specs.declared.validation_fault.ValidationFault.TheVariants.{At}
use Rattle.x509_path_steps.specs.declared.validation_fault.ValidationReason.{ValidationReason}
use Rattle.x509_policy.specs.declared.anchor.AnchorFlags.{AnchorFlags}
use Rattle.x509_prim.specs.BitString.{bit_string}
use Rattle.x509_types.specs.Reencoding.{IsRefused}
use Rattle.x509_verify.specs.Effort.{KeepsLimits}
use Rattle.x509_verify.specs.Found.{Answers, Wanted, octets}
use Rattle.x509_verify.specs.Given.{candidates_of, trusted_of}
use Rattle.x509_verify.specs.Named.{IsDecodable}
use Rattle.x509_verify.specs.declared.anchors.Anchors.{Anchors}
use Rattle.x509_verify.specs.declared.find_error.FindError.{FindError}
use Rattle.x509_verify.specs.declared.find_error.FindError.TheVariants.{Leaf, Limit, UnknownIssuer, Refused}
use Rattle.x509_verify.specs.declared.found.Found.{Found}
use Rattle.x509_verify.specs.declared.limits.SearchLimits.{SearchLimits}
use Rattle.x509_verify.specs.declared.pool.Pool.{Pool}
use Rattle.x509_verify.specs.declared.refusal.Refusal.{Refusal}

-- ---- what is given

-- the parts of the bytes, and that one isn't within them
abbrev pub parts : List ℕ → List Span → List (List ℕ)
parts bytes spans = map (part_of bytes) spans

abbrev pub SomeOutside : List ℕ → List Span → Type 0
SomeOutside bytes spans = (span : Span) × Contains spans span × IsOutside bytes span

-- this is trusted by the certificate of these bytes (RFC 5937 2)
abbrev pub GivesTrusted : List ℕ → Trusted → Type 0
GivesTrusted bytes trusted = (c : Certificate) × (trust : Trust) × Spells rfc5280_certificate c bytes × IsTrustOf c.tbs_certificate trust × LendsTrust trusted trust

-- the settings are those that are asked for (RFC 5280 6.1.1 (b), (c), (e) to (i))
pub record LendSettings (constraints_octets policies_octets octets : List ℕ) (settings : PathSettings) : Type 0 where
  pub constraints : Option NameConstraints
  pub are_constraints : AreConstraints constraints_octets constraints
  pub lends_constraints : LendsConstraints settings.name_constraints constraints
  pub asked : AskedSettings
  pub has_settings : HasSettings octets asked
  pub moment : settings.moment ≡ asked.moment
  pub named : Option CertificatePolicies
  pub are_named : AreNamed policies_octets named
  pub policies : asked_of settings ≡ policies_asked asked named
  pub purposes : purposes_of settings ≡ unless_none (all_purposes asked (own_purpose_in octets))
  pub uses : uses_of settings ≡ uses_of (bare_settings asked)

-- a certificate and a key are those parts of the bytes
pub record IsLink (bytes : List ℕ) (link : BadLink) : Type 0 where
  pub within : IsWithin bytes link.certificate × IsWithin bytes link.key
  pub certificate : IsDecodable (part_of bytes link.certificate)
  pub key : (k : SubjectPublicKeyInfo) × Spells subject_public_key_info k (part_of bytes link.key)

-- why they aren't
abbrev pub IsNoLink : (ErrorKind → Type 0) → (ErrorKind → Type 0) → List ℕ → BadLink → ErrorKind → Type 0
IsNoLink certificates keys bytes link e =
    ((e ≡ kinds.Failed) × (IsOutside bytes link.certificate ⊎ IsOutside bytes link.key))
    ⊎ (IsRefused rfc5280_certificate certificates (part_of bytes link.certificate) e ⊎ IsRefused subject_public_key_info keys (part_of bytes link.key) e)

abbrev pub SomeIsNoLink : (ErrorKind → Type 0) → (ErrorKind → Type 0) → List ℕ → List BadLink → ErrorKind → Type 0
SomeIsNoLink certificates keys bytes links e = (link : BadLink) × Contains links link × IsNoLink certificates keys bytes link e

-- the certificates and the keys of links
abbrev pub link_in : List ℕ → BadLink → List ℕ × List ℕ
link_in bytes link = (part_of bytes link.certificate, part_of bytes link.key)

abbrev pub links_in : List ℕ → List BadLink → List (List ℕ × List ℕ)
links_in bytes links = map (link_in bytes) links

-- Any bits are taken for the signature of a certificate under a key, but not where the two are listed.
abbrev pub AcceptsBut : List (List ℕ × List ℕ) → Accepting → Type 0
AcceptsBut links accepts =
    (bytes : List ℕ) (c : Certificate) (key : SubjectPublicKeyInfo) → Spells rfc5280_certificate c bytes
    → IsSigned accepts key bytes c ↔ (Contains links (bytes, spelling subject_public_key_info key) → ⊥)

-- What is searched for: a path to the leaf, which is a certificate, under what the anchors give, over those of the candidates that are certificates.
pub record IsAsked (search : PathSearch) (given : List Trusted) (accepts : Accepting) (wanted : Wanted) : Type 0 where
  pub settings : LendSettings search.name_constraints.now search.policies.now search.settings.now wanted.settings
  pub anchors : All (IsWithin search.bytes.now) search.anchors.now
  pub each : AllZip GivesTrusted (parts search.bytes.now search.anchors.now) given
  pub trusted : (one : Trusted) → Contains wanted.trusted one ↔ Contains given one
  pub within : All (IsWithin search.bytes.now) search.candidates.now
  pub candidates : (bytes : List ℕ) → Contains wanted.candidates bytes ↔ (Contains (parts search.bytes.now search.candidates.now) bytes × IsDecodable bytes)
  pub is_within : IsWithin search.bytes.now search.leaf
  pub leaf : wanted.leaf ≡ part_of search.bytes.now search.leaf
  pub is_certificate : IsDecodable wanted.leaf
  pub links : All (IsLink search.bytes.now) search.bad.now
  pub accepts_but : AcceptsBut (links_in search.bytes.now search.bad.now) accepts
  pub max_depth : wanted.max_depth ≡ search.max_depth

-- ---- what is answered

abbrev pub same_octets : List ℕ → List ℕ → Bool
same_octets one other = pointwise nat_eq one other

-- the place of the first that is these octets; how many there are where none is
abbrev pub first_place : List (List ℕ) → List ℕ → ℕ
first_place all one = position_or_len (λ other. same_octets other one) all

-- both are there and the same, or neither is there
abbrev pub same_option : {X : Type 0} → (X → X → Bool) → Option X → Option X → Bool
same_option same None None = true
same_option same None (Some other) = false
same_option same (Some one) None = false
same_option same (Some one) (Some other) = same one other

abbrev pub same_bool : Bool → Bool → Bool
same_bool true other = other
same_bool false other = not other

abbrev pub same_flags : AnchorFlags → AnchorFlags → Bool
same_flags one other =
    same_bool one.inhibit_policy_mapping other.inhibit_policy_mapping && (same_bool one.require_explicit_policy other.require_explicit_policy
    && same_bool one.inhibit_any_policy other.inhibit_any_policy)

-- the same name and key, for the same paths
abbrev pub same_trust : Trusted → Trusted → Bool
same_trust one other =
    same_octets one.anchor.name.now other.anchor.name.now && (same_octets one.anchor.key.now other.anchor.key.now
    && (same_option (λ a b. same_octets a.now b.now) one.name_constraints other.name_constraints && (same_option nat_eq one.max_path_length other.max_path_length
    && (same_option (λ a b. same_octets a.now b.now) one.policies other.policies && same_flags one.policy_flags other.policy_flags))))

-- the place of the first that is the same trust; how many there are where none is
abbrev pub first_trust : List Trusted → Trusted → ℕ
first_trust all one = position_or_len (λ other. same_trust other one) all

-- a fault as two numbers: where it isn't that of a certificate, both are 0
abbrev pub place_of : ValidationFault → ℕ
place_of (At place reason) = place
place_of _ = 0

abbrev pub reason_of : ValidationFault → ℕ
reason_of (At place reason) = validation_code reason
reason_of _ = 0

-- what a call leaves: the buffer and the answer
pub record LeftPath : Type 0 where
  pub path : List ℕ
  pub found : FoundPath

-- A path is told: its anchor, how many candidates stand above the leaf, and where they fit into the buffer, which these are.
pub record IsPathTold (given : List Trusted) (candidates : List (List ℕ)) (leaf : List ℕ) (under : Trusted) (path : List (List ℕ)) (was is : LeftPath) : Type 0 where
  pub above : List (List ℕ)
  pub whole : path ≡ above ++ leaf ∷ []
  pub anchor : is.found.anchor ≡ first_trust given under
  pub places : AreTold (map (first_place candidates) above) was.path is.path is.found.count

-- What is wrong with the leaf in whatever path is told: under none of the anchors, and the buffer is left as it was.
pub record IsLeafTold (given : List Trusted) (told : ValidationReason) (was is : LeftPath) : Type 0 where
  pub path : is.path ≡ was.path
  pub anchor : is.found.anchor ≡ length given
  pub count : is.found.count ≡ 0
  pub place : is.found.place ≡ 0
  pub reason : is.found.reason ≡ validation_code told

-- ---- how much is searched

-- the limits of a search: 200,000 steps and 1,000 paths; the signatures ask nothing of a verifier, so of them there may be any number
abbrev pub search_limits : ℕ → SearchLimits
search_limits max_depth = record { max_depth = max_depth; max_steps = 200000; max_paths = 1000; max_signatures = 4294967295 }

-- what is answered keeps these limits, over what is searched
pub record KeepsSearch (wanted : Wanted) (result : Result Found FindError) : Type 0 where
  pub anchors : Anchors
  pub pool : Pool
  pub trusted : trusted_of anchors ≡ wanted.trusted
  pub candidates : candidates_of pool ≡ wanted.candidates
  pub keeps : KeepsLimits anchors pool (search_limits wanted.max_depth) wanted.leaf result

-- What is left of a search. Done: a path is found, and told. Faulty: there is none, and what is wrong with the leaf is told, or else a path that isn't valid,
-- with its fault. Absent: there isn't even one by the names. Limit: to try all takes more than is allowed, and nothing is said. Else memory was refused.
unfoldable pub TellsPath : List Trusted → List (List ℕ) → Accepting → Wanted → LeftPath → LeftPath → Status → Type 0
TellsPath given candidates accepts wanted was is statuses.Done =
    (found : Found) × Answers accepts wanted (Ok found) × KeepsSearch wanted (Ok found)
    × IsPathTold given candidates wanted.leaf found.trusted (octets found.path.items) was is × (is.found.place ≡ 0) × (is.found.reason ≡ 0)
TellsPath given candidates accepts wanted was is statuses.Faulty =
    ((reason : ValidationReason) × Answers accepts wanted (Err (Leaf reason)) × IsLeafTold given reason was is)
    ⊎ ((refusal : Refusal) × Answers accepts wanted (Err (Refused refusal)) × KeepsSearch wanted (Err (Refused refusal))
    × IsPathTold given candidates wanted.leaf refusal.trusted (octets refusal.path.items) was is
    × (is.found.place ≡ place_of refusal.fault) × (is.found.reason ≡ reason_of refusal.fault))
TellsPath given candidates accepts wanted was is statuses.Absent = Answers accepts wanted (Err UnknownIssuer) × KeepsSearch wanted (Err UnknownIssuer) × (is ≡ was)
TellsPath given candidates accepts wanted was is statuses.Limit = Answers accepts wanted (Err Limit) × KeepsSearch wanted (Err Limit) × (is ≡ was)
TellsPath given candidates accepts wanted was is (statuses.Refused e) = (e ≡ kinds.Memory) × (is ≡ was)
TellsPath given candidates accepts wanted was is statuses.NoRoom = ⊥
TellsPath given candidates accepts wanted was is statuses.Repeated = ⊥

-- the errors that a certificate, a key, constraints and policies have of their own in reading
pub record Refusing : Type 1 where
  pub certificate : ErrorKind → Type 0
  pub key : ErrorKind → Type 0
  pub constraints : ErrorKind → Type 0
  pub policies : ErrorKind → Type 0

-- nothing is trusted by one of the certificates
abbrev pub SomeIsUntrusted : (ErrorKind → Type 0) → List (List ℕ) → ErrorKind → Type 0
SomeIsUntrusted refuses anchors e = (bytes : List ℕ) × Contains anchors bytes × IsUntrusted refuses bytes e

-- why what is searched can't be taken from the bytes
abbrev pub IsNotSought : Refusing → PathSearch → ErrorKind → Type 0
IsNotSought refuses search e =
    (e ≡ kinds.Memory)
    ⊎ (((e ≡ kinds.Failed) × (SomeOutside search.bytes.now search.anchors.now
    ⊎ (SomeOutside search.bytes.now search.candidates.now ⊎ IsOutside search.bytes.now search.leaf)))
    ⊎ (SomeIsUntrusted refuses.certificate (parts search.bytes.now search.anchors.now) e
    ⊎ (IsRefused rfc5280_certificate refuses.certificate (part_of search.bytes.now search.leaf) e
    ⊎ SomeIsNoLink refuses.certificate refuses.key search.bytes.now search.bad.now e)))

-- why nothing is searched
abbrev pub AsksNoPath : Refusing → PathSearch → ErrorKind → Type 0
AsksNoPath refuses search e =
    ((e ≡ kinds.Value) × (HasNoSettings search.settings.now ⊎ (255 < search.max_depth)))
    ⊎ (IsRefusedUnlessEmpty name_constraints refuses.constraints search.name_constraints.now e
    ⊎ (IsRefusedUnlessEmpty certificate_policies refuses.policies search.policies.now e ⊎ IsNotSought refuses search e))

-- what a call leaves that searches for this
unfoldable pub FindsPath : Refusing → PathSearch → LeftPath → LeftPath → Status → Type 0
FindsPath refuses search was is status =
    ((given : List Trusted) × (accepts : Accepting) × (wanted : Wanted) × IsAsked search given accepts wanted
    × TellsPath given (parts search.bytes.now search.candidates.now) accepts wanted was is status)
    ⊎ ((e : ErrorKind) × (status ≡ statuses.Refused e) × (is ≡ was) × AsksNoPath refuses search e)

-- ---- tools of the proofs

-- the parts are those of a link
pub record IsBadSignature (link : List ℕ × List ℕ) (bad : BadSignature) : Type 0 where
  pub certificate : Certificate
  pub spells : Spells rfc5280_certificate certificate link.0
  pub algorithm : bad.algorithm.now ≡ spelling algorithm_identifier certificate.signature_algorithm
  pub key : bad.key.now ≡ link.1
  pub message : IsSignedPart link.0 bad.message.now
  pub signature : bad.signature.now ≡ spelling bit_string certificate.signature

abbrev pub IsOpenedLink : List ℕ → BadLink → BadSignature → Type 0
IsOpenedLink bytes link bad = IsLink bytes link × IsBadSignature (link_in bytes link) bad

-- the signature is this one
abbrev pub is_bad : List ℕ → List ℕ → List ℕ → List ℕ → BadSignature → Bool
is_bad algorithm key message signature bad =
    same_octets bad.algorithm.now algorithm && (same_octets bad.key.now key && (same_octets bad.message.now message && same_octets bad.signature.now signature))

-- any bits are accepted, but those that are listed
abbrev pub unlisted : List BadSignature → Accepting
unlisted bad algorithm key message bits =
    not (list_any (is_bad (spelling algorithm_identifier algorithm) (spelling subject_public_key_info key) message (spelling bit_string bits)) bad)

-- what is searched was taken from the bytes
pub record IsSought (search : PathSearch) (it : Sought) : Type 0 where
  pub anchors : All (IsWithin search.bytes.now) search.anchors.now
  pub each : AllZip GivesTrusted (parts search.bytes.now search.anchors.now) it.trusted.items
  pub within : All (IsWithin search.bytes.now) search.candidates.now
  pub candidates : octets it.candidates.items ≡ parts search.bytes.now search.candidates.now
  pub is_within : IsWithin search.bytes.now search.leaf
  pub leaf : it.leaf.now ≡ part_of search.bytes.now search.leaf
  pub is_certificate : IsDecodable it.leaf.now
  pub links : AllZip (IsOpenedLink search.bytes.now) search.bad.now it.bad.items
