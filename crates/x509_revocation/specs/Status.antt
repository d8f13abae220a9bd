-- The status of a certificate by CRLs, asked one after the other (RFC 5280 6.3.3).
use Rattle.std.specs.Prelude.{◌≡◌, ◌≢◌, ◌⊎◌, ◌==◌, ℕ, suc, List, [], ◌∷◌, Option, MatchOption, if◌then◌else◌}
use Rattle.bitflags.specs.Sets.{without}
use Rattle.x509_ext.specs.declared.pkix.reasons.Reasons.{Reasons}
use Rattle.x509_revocation.specs.Points.{all_reasons}
use Rattle.x509_revocation.specs.Says.{GivenCrl, Question, Says}
use Rattle.x509_revocation.specs.declared.status.Revocation.{Revocation}
use Rattle.x509_revocation.specs.declared.status.RevocationStatus.{RevocationStatus}
use Rattle.x509_revocation.specs.declared.status.RevocationStatus.TheVariants.{Unrevoked, Revoked, Undetermined}

-- the reasons that are left when these were covered
abbrev pub minus : Reasons → Reasons → Reasons
minus left reasons = record { 0 = without 16 left.0 reasons.0 }

-- (e): one or more of the reasons is left
abbrev pub AddsTo : Reasons → Reasons → Type 0
AddsTo left reasons = minus left reasons ≢ left

-- It isn't used where these reasons are left: it says nothing, or of no reason that is left.
abbrev pub IsUnused : Question → List GivenCrl → ℕ → Reasons → GivenCrl → Type 0
IsUnused question all place left given = (reasons : Reasons) (revoked : Option Revocation) → Says question all place given reasons revoked → AddsTo left reasons → ⊥

-- the status where no CRL is left
abbrev pub last_status : Reasons → RevocationStatus
last_status left = if left.0 == 0 then Unrevoked else Undetermined left

-- what is answered to the CRLs from that place on, where these reasons are left
abbrev pub AnswersFrom : Question → List GivenCrl → ℕ → Reasons → List GivenCrl → RevocationStatus → Type 0
AnswersFrom question all place left [] status = status ≡ last_status left
AnswersFrom question all place left (given ∷ others) status =
    (IsUnused question all place left given × AnswersFrom question all (suc place) left others status)
    ⊎ ((reasons : Reasons) × (revoked : Option Revocation) × Says question all place given reasons revoked × AddsTo left reasons
    × MatchOption revoked
    (AnswersFrom question all (suc place) (minus left reasons) others status)
    (λ found. status ≡ Revoked found.crl found.date found.reason))

abbrev pub Answers : Question → List GivenCrl → RevocationStatus → Type 0
Answers question given status = AnswersFrom question given 0 all_reasons given status
