-- How long a path is searched for that is let through.
use Rattle.std.specs.Prelude.{◌≢◌, ◌↔◌, ◌⊎◌, ℕ, zero, suc, List, Contains, Option, Some, None, Result, Ok, Err}
use Rattle.x509_path.specs.Certificates.{Accepting}
use Rattle.x509_revocation.specs.Says.{GivenCrl}
use Rattle.x509_trust.specs.Peers.{HasBarred}
use Rattle.x509_trust.specs.declared.error.VerifyError.{VerifyError}
use Rattle.x509_trust.specs.declared.error.VerifyError.TheVariants.{Path}
use Rattle.x509_trust.specs.declared.revocation.RevocationCheck.{RevocationCheck}
use Rattle.x509_verify.specs.Effort.{KeepsLimits}
use Rattle.x509_verify.specs.Given.{candidates_of}
use Rattle.x509_verify.specs.declared.anchors.Anchors.{Anchors}
use Rattle.x509_verify.specs.declared.find_error.FindError.{FindError}
use Rattle.x509_verify.specs.declared.found.Found.{Found}
use Rattle.x509_verify.specs.declared.limits.SearchLimits.{SearchLimits}
use Rattle.x509_verify.specs.declared.pool.Pool.{Pool}

-- the candidates of the second pool are those of the first but one
abbrev pub IsWithout : Pool → List ℕ → Pool → Type 0
IsWithout pool bytes rest = (one : List ℕ) → Contains (candidates_of rest) one ↔ (Contains (candidates_of pool) one × (one ≢ bytes))

-- what a search over the candidates keeps to, or one over those that are left without up to so many that aren't let through
abbrev pub KeepsWithout : Accepting → RevocationCheck → List GivenCrl → Anchors → SearchLimits → List ℕ → ℕ → Pool → Result Found FindError → Type 0
KeepsWithout accepts check given anchors limits leaf zero pool result = KeepsLimits anchors pool limits leaf result
KeepsWithout accepts check given anchors limits leaf (suc left) pool result =
    KeepsLimits anchors pool limits leaf result
    ⊎ ((bytes : List ℕ) × Contains (candidates_of pool) bytes × HasBarred accepts check given bytes
    × ((rest : Pool) × IsWithout pool bytes rest × KeepsWithout accepts check given anchors limits leaf left rest result))

-- what is found, or told of paths, keeps to the limits
abbrev pub KeepsPeer : Accepting → Option RevocationCheck → List GivenCrl → Anchors → SearchLimits → List ℕ → Pool → Result Found FindError → Type 0
KeepsPeer accepts None given anchors limits leaf pool result = KeepsLimits anchors pool limits leaf result
KeepsPeer accepts (Some check) given anchors limits leaf pool result = KeepsWithout accepts check given anchors limits leaf check.max_refused pool result

-- the same of an answer, as far as it is one of a search for paths
abbrev pub OfPaths : (Result Found FindError → Type 0) → Result Found VerifyError → Type 0
OfPaths keeps (Ok found) = keeps (Ok found)
OfPaths keeps (Err (Path error)) = keeps (Err error)
OfPaths keeps (Err _) = Unit {0}
