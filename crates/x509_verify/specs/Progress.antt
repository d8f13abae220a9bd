-- Tools of the proofs: what a search knows on its way, from the certificate up.
use Rattle.std.specs.Borrow.{Bor}
use Rattle.std.specs.List.{All}
use Rattle.std.specs.Prelude.{◌≡◌, ◌≢◌, ◌≤◌, ◌<◌, ◌+◌, ◌↔◌, ◌⊎◌, ℕ, zero, suc, Bool, true, false, List, [], ◌∷◌, ◌++◌, length, map, Contains, Option, Some, None, IsSome, MatchOption, Result, Ok, Err}
use Rattle.x509_base.specs.SubjectPublicKeyInfo.{subject_public_key_info}
use Rattle.x509_base.specs.declared.subject_public_key_info.SubjectPublicKeyInfo.{SubjectPublicKeyInfo}
use Rattle.x509_cert.specs.Certificate.{rfc5280_certificate}
use Rattle.x509_der.specs.Form.{Spells}
use Rattle.x509_match.specs.NameKeys.{IsNameKey}
use Rattle.x509_match.specs.declared.key.MatchedName.{MatchedName}
use Rattle.x509_name.specs.Names.{name}
use Rattle.x509_path.specs.Certificates.{Accepting, Certificate, IsSigned}
use Rattle.x509_path.specs.Lent.{Lends}
use Rattle.x509_path_steps.specs.Keys.{working_key}
use Rattle.x509_path_steps.specs.declared.settings.PathSettings.{PathSettings}
use Rattle.x509_path_steps.specs.declared.trusted.Trusted.{Trusted}
use Rattle.x509_verify.specs.Effort.{Effort}
use Rattle.x509_verify.specs.Found.{AreDistinct, AreLinked, IsFound, IsLinkedTo, IsRefusal, IsShortest, IsValidUnder, LeadsTo, Wanted, octets}
use Rattle.x509_verify.specs.Given.{candidates_of, trusted_of}
use Rattle.x509_verify.specs.Named.{IsDecodable, Name}
use Rattle.x509_verify.specs.declared.anchors.Anchors.{Anchors}
use Rattle.x509_verify.specs.declared.found.Found.{Found}
use Rattle.x509_verify.specs.declared.pool.Pool.{Pool}
use Rattle.x509_verify.specs.declared.progress.Asked.{Asked}
use Rattle.x509_verify.specs.declared.progress.Progress.{Progress}
use Rattle.x509_verify.specs.declared.progress.Stop.{Stop}
use Rattle.x509_verify.specs.declared.progress.Stop.TheVariants.{Memory, Limit}
use Rattle.x509_verify.specs.declared.refusal.Refusal.{Refusal}

-- ---- signatures

-- it is what the verifier answers
abbrev pub IsAnswer : Accepting → Asked → Type 0
IsAnswer accepts asked =
    (c : Certificate) (key : SubjectPublicKeyInfo) → Lends asked.certificate.now c → Spells subject_public_key_info key asked.key.items
    → (asked.is_accepted ≡ true) ↔ IsSigned accepts key asked.certificate.now c

-- each certificate's signature is accepted for the key above it, as that is used
abbrev pub AreSigned : Accepting → SubjectPublicKeyInfo → List (List ℕ) → Type 0
AreSigned accepts key [] = Unit {0}
AreSigned accepts key (bytes ∷ path) =
    (c : Certificate) × Lends bytes c × IsSigned accepts key bytes c × AreSigned accepts (working_key key c.tbs_certificate.subject_public_key_info) path

-- that of the certificate at the place isn't
abbrev pub IsUnsignedAt : Accepting → SubjectPublicKeyInfo → List (List ℕ) → ℕ → Type 0
IsUnsignedAt accepts key [] place = ⊥
IsUnsignedAt accepts key (bytes ∷ path) zero = (c : Certificate) × Lends bytes c × (IsSigned accepts key bytes c → ⊥)
IsUnsignedAt accepts key (bytes ∷ path) (suc place) =
    (c : Certificate) × Lends bytes c × IsUnsignedAt accepts (working_key key c.tbs_certificate.subject_public_key_info) path place

-- what is said of the signatures along a path
abbrev pub TellsSigned : Accepting → SubjectPublicKeyInfo → List (List ℕ) → Option ℕ → Type 0
TellsSigned accepts key path None = AreSigned accepts key path
TellsSigned accepts key path (Some place) = IsUnsignedAt accepts key path place

-- ---- paths

-- the candidates put above the path, from the lowest on
abbrev pub climbed : List (List ℕ) → List (List ℕ) → List (List ℕ)
climbed [] path = path
climbed (bytes ∷ up) path = climbed up (bytes ∷ path)

-- what is wanted is searched for: under these settings, from these anchors and among these candidates
pub record IsSearched (path_settings : PathSettings) (anchors : Anchors) (pool : Pool) (wanted : Wanted) : Type 0 where
  pub settings : wanted.settings ≡ path_settings
  pub trusted : wanted.trusted ≡ trusted_of anchors
  pub candidates : wanted.candidates ≡ candidates_of pool

-- the path is one of candidates above the certificate, and so many may still be put above it
pub record IsOnPath (wanted : Wanted) (path : List (List ℕ)) (left : ℕ) : Type 0 where
  pub above : List (List ℕ)
  pub whole : path ≡ above ++ wanted.leaf ∷ []
  pub known : All (λ bytes. Contains wanted.candidates bytes) above
  pub once : AreDistinct path
  pub short : length above + left ≤ wanted.max_depth

-- the key is that of the issuer of the topmost certificate
abbrev pub HasIssuerKey : List (List ℕ) → MatchedName → Type 0
HasIssuerKey [] key = ⊥
HasIssuerKey (bytes ∷ path) key = (c : Certificate) × Lends bytes c × IsNameKey key c.tbs_certificate.issuer

-- it isn't so that it is no such key
abbrev pub KnowsIssuer : List (List ℕ) → MatchedName → Type 0
KnowsIssuer path key = (HasIssuerKey path key → ⊥) → ⊥

abbrev pub AreDecodable : List (List ℕ) → Type 0
AreDecodable path = All (λ bytes. IsDecodable bytes) path

-- candidates that may be put above the path
pub record MayStand (wanted : Wanted) (path : List (List ℕ)) (left : ℕ) (up : List (List ℕ)) : Type 0 where
  pub known : All (λ bytes. Contains wanted.candidates bytes) up
  pub once : AreDistinct (climbed up path)
  pub many : length up ≡ left

-- Under what is trusted, and with such candidates above, the path isn't valid; and where the names are linked a refusal is noted.
pub record IsTriedUnder (accepts : Accepting) (wanted : Wanted) (trusted : Trusted) (path : List (List ℕ)) (refusal : Option Refusal) : Type 0 where
  pub none : IsValidUnder accepts wanted.settings trusted path → ⊥
  pub noted : (x : Name) → Spells name x trusted.anchor.name.now → AreLinked x path → IsSome refusal

-- under each of what is trusted
abbrev pub AreTried : Accepting → Wanted → List (List ℕ) → Option Refusal → Type 0
AreTried accepts wanted path refusal = (trusted : Trusted) → Contains wanted.trusted trusted → IsTriedUnder accepts wanted trusted path refusal

-- and with so many candidates above, any that may stand there
abbrev pub IsTried : Accepting → Wanted → List (List ℕ) → ℕ → Option Refusal → Type 0
IsTried accepts wanted path left refusal =
    (trusted : Trusted) (up : List (List ℕ)) → Contains wanted.trusted trusted → MayStand wanted path left up
    → IsTriedUnder accepts wanted trusted (climbed up path) refusal

-- what is known is right: what the verifier was asked, and the path that is told if none is found
pub record IsRight (accepts : Accepting) (wanted : Wanted) (progress : Progress) : Type 0 where
  pub asked : All (IsAnswer accepts) progress.asked.items
  pub refusal : (told : Refusal) → progress.refusal ≡ Some told → IsRefusal accepts wanted told

-- a search goes on: what is known stays right, and what was noted stays noted; it found a path, or tried those that it says
pub record Continues (accepts : Accepting) (wanted : Wanted) (before after : Progress) (tried : Type 0) (found : Option Found) : Type 0 where
  pub right : IsRight accepts wanted after
  pub noted : IsSome before.refusal → IsSome after.refusal
  pub answer : MatchOption found tried (λ it. IsFound accepts wanted it)

-- the same up to another number of candidates
abbrev pub up_to : Wanted → ℕ → Wanted
up_to wanted depth = record { settings = wanted.settings; trusted = wanted.trusted; candidates = wanted.candidates; max_depth = depth; leaf = wanted.leaf }

-- No path of fewer candidates is valid, and where the names of one are linked a refusal is noted.
pub record AreTriedBelow (accepts : Accepting) (wanted : Wanted) (depth : ℕ) (refusal : Option Refusal) : Type 0 where
  pub none : (trusted : Trusted) (above : List (List ℕ)) → length above < depth → LeadsTo accepts wanted trusted above → ⊥
  pub noted : (trusted : Trusted) (above : List (List ℕ)) → length above < depth → IsLinkedTo wanted trusted above → IsSome refusal

-- how a search ends: with a shortest path, or with none
abbrev pub EndsSearch : Accepting → Wanted → Option Refusal → Option Found → Type 0
EndsSearch accepts wanted refusal None = AreTriedBelow accepts wanted (suc wanted.max_depth) refusal
EndsSearch accepts wanted refusal (Some found) = IsFound accepts wanted found × IsShortest accepts wanted found

-- ---- what a search takes

-- what is left to it
abbrev pub left_of : Progress → Effort
left_of progress = record { steps = progress.steps; paths = progress.paths; signatures = progress.signatures }

-- of what was left so many steps and paths were taken, and no more signatures than that
pub record Takes (before after : Effort) (effort : Effort) : Type 0 where
  pub steps : before.steps ≡ after.steps + effort.steps
  pub paths : before.paths ≡ after.paths + effort.paths
  pub signatures : before.signatures ≤ after.signatures + effort.signatures

-- less is left than is needed
abbrev pub Lacks : Effort → Effort → Type 0
Lacks left effort = (left.steps < effort.steps) ⊎ ((left.paths < effort.paths) ⊎ (left.signatures < effort.signatures))

-- where nothing is found, all was tried; a limit stops only what needs more than is left
abbrev pub Spends : Effort → Effort → Effort → Result (Option Found) Stop → Type 0
Spends before after effort (Ok None) = Takes before after effort
Spends before after effort (Err Limit) = Lacks before effort
Spends before after effort _ = Unit {0}

-- what is found has so many certificates
abbrev pub FindsLong : ℕ → Result (Option Found) Stop → Type 0
FindsLong whole (Ok (Some found)) = length found.path.items ≡ whole
FindsLong whole _ = Unit {0}

-- what is found has some number of candidates above so many certificates, and for all fewer there was enough
abbrev pub FindsBehind : ℕ → (ℕ → Effort) → Effort → Result (Option Found) Stop → Type 0
FindsBehind many below left (Ok (Some found)) =
    (count : ℕ) × (length found.path.items ≡ many + count) × (((below count).steps ≤ left.steps) × ((below count).paths ≤ left.paths))
FindsBehind many below left _ = Unit {0}
