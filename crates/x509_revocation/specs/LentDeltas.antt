-- The newest delta CRL among those that were looked at, and what was found in it.
use Rattle.std.specs.Prelude.{◌≡◌, ◌++◌, Bool, List, ◌∷◌, length, Option, Some, None, option_map}
use Rattle.std.specs.List.{All}
use Rattle.x509_check.specs.CrlRefs.{lent_entry}
use Rattle.x509_check.specs.declared.lent.entry.RevokedCertRef.{RevokedCertRef}
use Rattle.x509_revocation.specs.Crls.{Crl, IsOlder}
use Rattle.x509_revocation.specs.Entries.{FindsEntry}
use Rattle.x509_revocation.specs.Lent.{LendsCrl}
use Rattle.x509_revocation.specs.Says.{GivenCrl, IsDeltaTo, Question}
use Rattle.x509_revocation.specs.declared.steps.Newest.{Newest}

-- a CRL is newer than the newest so far, if there is one
abbrev pub IsNewer : Option Newest → Crl → Type 0
IsNewer None crl = Unit {0}
IsNewer (Some newest) crl = (other : Crl) → LendsCrl newest.crl.now.bytes.now other → IsOlder other crl

-- it is no delta CRL to the complete one, or no newer one
abbrev pub IsNoNewer : Question → Bool → GivenCrl → Option Newest → GivenCrl → Type 0
IsNoNewer question indirect complete None delta = IsDeltaTo question indirect complete delta → ⊥
IsNoNewer question indirect complete (Some newest) delta =
    (other : Crl) → LendsCrl newest.crl.now.bytes.now other → IsDeltaTo question indirect complete delta → IsOlder other delta.crl → ⊥

-- of those before it each is older, and none behind it is newer
pub record IsNewestAmong (question : Question) (indirect : Bool) (complete : GivenCrl) (seen : List GivenCrl) (newest : Newest) (found : Option RevokedCertRef) : Type 0 where
  pub delta : GivenCrl
  pub before : List GivenCrl
  pub behind : List GivenCrl
  pub stands : seen ≡ before ++ delta ∷ behind
  pub place : newest.place ≡ length before
  pub lends : LendsCrl newest.crl.now.bytes.now delta.crl
  pub fits : IsDeltaTo question indirect complete delta
  pub finds : FindsEntry question.certificate delta.crl (option_map lent_entry found)
  pub older : All (λ other. IsDeltaTo question indirect complete other → IsOlder other.crl delta.crl) before
  pub none_newer : All (λ other. IsDeltaTo question indirect complete other → IsOlder delta.crl other.crl → ⊥) behind

-- None exactly where none of them is a delta CRL to the complete one
abbrev pub IsNewestOf : Question → Bool → GivenCrl → List GivenCrl → Option Newest → Option RevokedCertRef → Type 0
IsNewestOf question indirect complete seen None found = All (λ other. IsDeltaTo question indirect complete other → ⊥) seen
IsNewestOf question indirect complete seen (Some newest) found = IsNewestAmong question indirect complete seen newest found
