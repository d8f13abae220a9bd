-- What a search answers that asks for the status of certificates above the last one.
use Rattle.std.specs.Prelude.{◌≤◌, ◌+◌, ℕ, List, suc, length, Contains, Result, Ok, Err}
use Rattle.std.specs.List.{All}
use Rattle.x509_path.specs.Certificates.{Accepting}
use Rattle.x509_path_steps.specs.declared.trusted.Trusted.{Trusted}
use Rattle.x509_revocation.specs.Says.{GivenCrl}
use Rattle.x509_trust.specs.Peers.{AreBarred, IsBarred, Passes, asked_above}
use Rattle.x509_trust.specs.declared.candidates.Candidates.{Candidates}
use Rattle.x509_trust.specs.declared.candidates.Candidates.TheVariants.{Given, Left}
use Rattle.x509_trust.specs.declared.error.VerifyError.{VerifyError}
use Rattle.x509_trust.specs.declared.error.VerifyError.TheVariants.{OtherName, Path, Revocation, TooManyRefused}
use Rattle.x509_trust.specs.declared.revocation.RevocationCheck.{RevocationCheck}
use Rattle.x509_verify.specs.Found.{Answers, IsFound, LeadsTo, Wanted}
use Rattle.x509_verify.specs.declared.find_error.FindError.TheVariants.{Memory, Limit}
use Rattle.x509_verify.specs.declared.found.Found.{Found}
use Rattle.x509_verify.specs.declared.pool.Pool.{Pool}

-- the candidates of a search
abbrev pub pool_of : Candidates → Pool
pool_of (Given pool) = pool.now
pool_of (Left pool) = pool

-- those above that are asked for their status pass
abbrev pub AbovePass : Accepting → RevocationCheck → List GivenCrl → List (List ℕ) → Type 0
AbovePass accepts check given above = All (Passes accepts check given) (asked_above check.scope above)

pub record FindsPassing (accepts : Accepting) (wanted : Wanted) (check : RevocationCheck) (given : List GivenCrl) (it : Found) : Type 0 where
  pub found : IsFound accepts wanted it
  pub passes : AbovePass accepts check given found.above
  pub shortest : (trusted : Trusted) (above : List (List ℕ)) → LeadsTo accepts wanted trusted above → AbovePass accepts check given above → length it.path.items ≤ length above + 1

abbrev pub NonePasses : Accepting → Wanted → RevocationCheck → List GivenCrl → Type 0
NonePasses accepts wanted check given = (trusted : Trusted) (above : List (List ℕ)) → LeadsTo accepts wanted trusted above → AbovePass accepts check given above → ⊥

-- a valid path has that candidate above the last one
abbrev pub StandsAbove : Accepting → Wanted → List ℕ → Type 0
StandsAbove accepts wanted bytes = (trusted : Trusted) × (above : List (List ℕ)) × LeadsTo accepts wanted trusted above × Contains above bytes

abbrev pub AnswersAbove : Accepting → Wanted → RevocationCheck → List GivenCrl → ℕ → Result Found VerifyError → Type 0
AnswersAbove accepts wanted check given left (Ok found) = FindsPassing accepts wanted check given found
AnswersAbove accepts wanted check given left (Err OtherName) = ⊥
AnswersAbove accepts wanted check given left (Err (Path error)) = Answers accepts wanted (Err error)
AnswersAbove accepts wanted check given left (Err (Revocation refused)) =
    NonePasses accepts wanted check given × StandsAbove accepts wanted refused.certificate.now
    × IsBarred accepts check given refused.certificate.now refused.status
AnswersAbove accepts wanted check given left (Err TooManyRefused) = AreBarred accepts check given wanted.candidates (suc left)

-- what is told of the candidates where a search without one that is refused answers that
abbrev pub told_behind : VerifyError → Result Found VerifyError → Result Found VerifyError
told_behind refusal (Ok found) = Ok found
told_behind refusal (Err TooManyRefused) = Err TooManyRefused
told_behind refusal (Err (Path Memory)) = Err (Path Memory)
told_behind refusal (Err (Path Limit)) = Err (Path Limit)
told_behind refusal (Err _) = Err refusal
