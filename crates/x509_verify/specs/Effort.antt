-- How much it takes to try all paths that lead by their names to a certificate.
use Rattle.std.specs.Prelude.{◌≡◌, ◌≤◌, ◌<◌, ◌+◌, ◌*◌, ◌⊎◌, ℕ, zero, suc, List, [], ◌∷◌, Bool, length, filter, bytes_eq, Result, Ok, Err, if◌then◌else◌}
use Rattle.std.specs.List.{list_any, sum_by}
use Rattle.x509_cert.specs.Certificate.{rfc5280_certificate}
use Rattle.x509_der.specs.Form.{Spells}
use Rattle.x509_match.specs.NameKeys.{IsNameKey}
use Rattle.x509_match.specs.contracts.key.MatchedNamePartialEq.TheImpl as key_eq
use Rattle.x509_match.specs.declared.key.MatchedName.{MatchedName}
use Rattle.x509_path.specs.Certificates.{Certificate}
use Rattle.x509_verify.specs.declared.anchors.Anchors.{Anchors}
use Rattle.x509_verify.specs.declared.candidate.Candidate.{Candidate}
use Rattle.x509_verify.specs.declared.find_error.FindError.{FindError}
use Rattle.x509_verify.specs.declared.find_error.FindError.TheVariants.{Limit, UnknownIssuer, Refused}
use Rattle.x509_verify.specs.declared.found.Found.{Found}
use Rattle.x509_verify.specs.declared.keyed.Keyed.{Keyed}
use Rattle.x509_verify.specs.declared.limits.SearchLimits.{SearchLimits}
use Rattle.x509_verify.specs.declared.pool.Pool.{Pool}

-- ---- chains of candidates

-- those under a name that matches
abbrev pub named : {V : Type 0} → MatchedName → List (Keyed MatchedName V) → List (Keyed MatchedName V)
named key entries = filter (λ entry. key_eq.ghosts.eq entry.key key) entries

abbrev pub bytes_of : Keyed MatchedName Candidate → List ℕ
bytes_of entry = entry.value.certificate.bytes.now

-- the candidate stands in the path already
abbrev pub is_there : List (List ℕ) → Keyed MatchedName Candidate → Bool
is_there path entry = list_any (λ bytes. bytes_eq bytes (bytes_of entry)) path

-- Above a path stand so many candidates more, each under the name of the issuer below it, and none of them twice. This is the sum of `each` for
-- each candidate that is put there, and of `last` for each chain of that many, by the name of the issuer of its topmost certificate.
unfoldable pub weigh : ℕ → (MatchedName → ℕ) → List (Keyed MatchedName Candidate) → ℕ → List (List ℕ) → MatchedName → ℕ
weigh each last candidates zero path issuer = last issuer
weigh each last candidates (suc left) path issuer =
    sum_by (λ entry. if is_there path entry then 0 else each + weigh each last candidates left (bytes_of entry ∷ path) entry.value.issuer) (named issuer candidates)

-- ---- what it takes

-- how many candidates are put above others, how many paths lead from an anchor, and how many signatures these have in all
pub record Effort : Type 0 where
  pub steps : ℕ
  pub paths : ℕ
  pub signatures : ℕ

abbrev pub nothing : Effort
nothing = record { steps = 0; paths = 0; signatures = 0 }

abbrev pub plus : Effort → Effort → Effort
plus a b = record { steps = a.steps + b.steps; paths = a.paths + b.paths; signatures = a.signatures + b.signatures }

-- so many anchors have the name
abbrev pub anchored : Anchors → MatchedName → ℕ
anchored anchors issuer = length (named issuer anchors.entries.items)

-- with so many candidates above the path, which then has `whole` certificates
abbrev pub effort : Anchors → Pool → ℕ → ℕ → List (List ℕ) → MatchedName → Effort
effort anchors pool whole left path issuer = record {
  steps = weigh 1 (λ key. 0) pool.entries.items left path issuer;
  paths = weigh 0 (anchored anchors) pool.entries.items left path issuer;
  signatures = weigh 0 (λ key. anchored anchors key * whole) pool.entries.items left path issuer;
}

-- with none of them, with one, and so on, for so many numbers
unfoldable pub effort_below : Anchors → Pool → ℕ → List (List ℕ) → MatchedName → Effort
effort_below anchors pool zero path issuer = nothing
effort_below anchors pool (suc count) path issuer = plus (effort_below anchors pool count path issuer) (effort anchors pool (length path + count) count path issuer)

-- ---- limits

-- it takes more than is allowed
abbrev pub IsOverLimits : SearchLimits → Effort → Type 0
IsOverLimits limits effort = (limits.max_steps < effort.steps) ⊎ ((limits.max_paths < effort.paths) ⊎ (limits.max_signatures < effort.signatures))

-- no more steps and paths than are allowed
abbrev pub IsWithinLimits : SearchLimits → Effort → Type 0
IsWithinLimits limits effort = (effort.steps ≤ limits.max_steps) × (effort.paths ≤ limits.max_paths)

-- of what it takes to try all paths to the certificate that have fewer than so many candidates
pub record OfPathsBelow (anchors : Anchors) (pool : Pool) (count : ℕ) (leaf : List ℕ) (P : Effort → Type 0) : Type 0 where
  pub certificate : Certificate
  pub spells : Spells rfc5280_certificate certificate leaf
  pub issuer : MatchedName
  pub key : IsNameKey issuer certificate.tbs_certificate.issuer
  pub holds : P (effort_below anchors pool count (leaf ∷ []) issuer)

-- A path is found only where all with fewer candidates take no more than is allowed, a limit is told only where all paths take more, and that there
-- is no path only where they take no more.
abbrev pub KeepsLimits : Anchors → Pool → SearchLimits → List ℕ → Result Found FindError → Type 0
KeepsLimits anchors pool limits leaf (Ok found) =
    (count : ℕ) × (length found.path.items ≡ suc count) × OfPathsBelow anchors pool count leaf (IsWithinLimits limits)
KeepsLimits anchors pool limits leaf (Err Limit) = OfPathsBelow anchors pool (suc limits.max_depth) leaf (IsOverLimits limits)
KeepsLimits anchors pool limits leaf (Err UnknownIssuer) = OfPathsBelow anchors pool (suc limits.max_depth) leaf (IsWithinLimits limits)
KeepsLimits anchors pool limits leaf (Err (Refused refusal)) = OfPathsBelow anchors pool (suc limits.max_depth) leaf (IsWithinLimits limits)
KeepsLimits anchors pool limits leaf _ = Unit {0}
