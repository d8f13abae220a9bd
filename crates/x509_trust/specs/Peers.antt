-- What a certificate is asked for beside a valid path: that it names the peer (RFC 9525; of e-mail RFC 5280 4.2.1.6), and that CRLs let it and those of
-- its path through (RFC 5280 6.3.3).
use Rattle.std.specs.Prelude.{◌≡◌, ◌≤◌, ◌+◌, ℕ, suc, List, [], ◌∷◌, ◌++◌, false, length, Contains, Option, Some, None, Result, Ok, Err}
use Rattle.std.specs.List.{All}
use Rattle.x509_path.specs.Certificates.{Accepting, Certificate, extensions_of}
use Rattle.x509_path.specs.Lent.{Lends}
use Rattle.x509_path_steps.specs.declared.trusted.Trusted.{Trusted}
use Rattle.x509_peer.specs.Naming.{Names}
use Rattle.x509_peer.specs.Peer.{Named, named_email, named_server}
use Rattle.x509_revocation.specs.Lent.{LendsAll, question}
use Rattle.x509_revocation.specs.Says.{GivenCrl}
use Rattle.x509_revocation.specs.Status as statuses
use Rattle.x509_revocation.specs.declared.status.RevocationStatus.{RevocationStatus}
use Rattle.x509_revocation.specs.declared.status.RevocationStatus.TheVariants.{Unrevoked, Revoked, Undetermined}
use Rattle.x509_trust.specs.declared.error.RefusedCertificate.{RefusedCertificate}
use Rattle.x509_trust.specs.declared.error.VerifyError.{VerifyError}
use Rattle.x509_trust.specs.declared.error.VerifyError.TheVariants.{OtherName, Path, Revocation, TooManyRefused}
use Rattle.x509_trust.specs.declared.peer.PeerName.{PeerName}
use Rattle.x509_trust.specs.declared.peer.PeerName.TheVariants.{Server, Email}
use Rattle.x509_trust.specs.declared.revocation.RevocationCheck.{RevocationCheck}
use Rattle.x509_trust.specs.declared.revocation.RevocationScope.{RevocationScope}
use Rattle.x509_trust.specs.declared.revocation.RevocationScope.TheVariants as scopes
use Rattle.x509_verify.specs.Found.{Answers, AreDistinct, IsFound, LeadsTo, Wanted}
use Rattle.x509_verify.specs.Named.{IsDecodable}
use Rattle.x509_verify.specs.declared.found.Found.{Found}

-- ---- names

abbrev pub named_peer : PeerName → Named
named_peer (Server name) = named_server name
named_peer (Email address) = named_email address

-- the certificate of these bytes names the peer; where none is asked for, any does
abbrev pub NamesPeer : Option PeerName → List ℕ → Type 0
NamesPeer None leaf = Unit {0}
NamesPeer (Some name) leaf = (c : Certificate) × Lends leaf c × Names (extensions_of c) (named_peer name)

-- ---- statuses

-- a certificate of this status isn't let through: it is revoked, or that isn't known and has to be
abbrev pub Bars : RevocationCheck → RevocationStatus → Type 0
Bars check Unrevoked = ⊥
Bars check (Revoked crl date reason) = Unit {0}
Bars check (Undetermined reasons) = check.allows_undetermined ≡ false

-- the certificate of these bytes has this status, and isn't let through
pub record IsBarred (accepts : Accepting) (check : RevocationCheck) (given : List GivenCrl) (bytes : List ℕ) (status : RevocationStatus) : Type 0 where
  pub certificate : Certificate
  pub lends : Lends bytes certificate
  pub has : statuses.Answers (question accepts check.settings certificate) given status
  pub bars : Bars check status

-- the same, whatever its status is
abbrev pub HasBarred : Accepting → RevocationCheck → List GivenCrl → List ℕ → Type 0
HasBarred accepts check given bytes = (status : RevocationStatus) × IsBarred accepts check given bytes status

-- the certificate of these bytes is let through
abbrev pub Passes : Accepting → RevocationCheck → List GivenCrl → List ℕ → Type 0
Passes accepts check given bytes =
    (c : Certificate) → Lends bytes c → (status : RevocationStatus) × statuses.Answers (question accepts check.settings c) given status × (Bars check status → ⊥)

-- those above the last one that are asked for their statuses
abbrev pub asked_above : RevocationScope → List (List ℕ) → List (List ℕ)
asked_above scopes.Leaf above = []
asked_above scopes.Path above = above

-- each certificate of the path that is asked for its status is let through
abbrev pub PathPasses : Accepting → Option RevocationCheck → List GivenCrl → List (List ℕ) → List ℕ → Type 0
PathPasses accepts None given above leaf = Unit {0}
PathPasses accepts (Some check) given above leaf = All (Passes accepts check given) (asked_above check.scope above) × Passes accepts check given leaf

-- the CRLs that are given, as values
abbrev pub LendsCrls : Option RevocationCheck → List GivenCrl → Type 0
LendsCrls None given = Unit {0}
LendsCrls (Some check) given = LendsAll check.crls.now given

-- ---- what is answered

-- a valid path leads to the certificate, and is let through
pub record IsUsable (accepts : Accepting) (wanted : Wanted) (check : Option RevocationCheck) (given : List GivenCrl) (trusted : Trusted) (above : List (List ℕ)) : Type 0 where
  pub leads : LeadsTo accepts wanted trusted above
  pub passes : PathPasses accepts check given above wanted.leaf

-- such a path was found, and none has fewer certificates
pub record FindsUsable (accepts : Accepting) (wanted : Wanted) (check : Option RevocationCheck) (given : List GivenCrl) (it : Found) : Type 0 where
  pub found : IsFound accepts wanted it
  pub passes : PathPasses accepts check given found.above wanted.leaf
  pub shortest : (trusted : Trusted) (above : List (List ℕ)) → IsUsable accepts wanted check given trusted above → length it.path.items ≤ length above + 1

-- there is none
abbrev pub NoneIsUsable : Accepting → Wanted → Option RevocationCheck → List GivenCrl → Type 0
NoneIsUsable accepts wanted check given = (trusted : Trusted) (above : List (List ℕ)) → IsUsable accepts wanted check given trusted above → ⊥

-- a path that is valid, whatever the statuses are, has that certificate: the one that was asked for, or a candidate above it
abbrev pub StandsIn : Accepting → Wanted → List ℕ → Type 0
StandsIn accepts wanted bytes = (trusted : Trusted) × (above : List (List ℕ)) × LeadsTo accepts wanted trusted above × Contains (above ++ wanted.leaf ∷ []) bytes

-- the certificate that is told stands in a path that is valid else, and isn't let through
pub record IsTold (accepts : Accepting) (wanted : Wanted) (check : Option RevocationCheck) (given : List GivenCrl) (refused : RefusedCertificate) : Type 0 where
  pub asked : RevocationCheck
  pub is : check ≡ Some asked
  pub stands : StandsIn accepts wanted refused.certificate.now
  pub barred : IsBarred accepts asked given refused.certificate.now refused.status

-- so many candidates or more aren't let through
pub record AreBarred (accepts : Accepting) (check : RevocationCheck) (given : List GivenCrl) (candidates : List (List ℕ)) (count : ℕ) : Type 0 where
  pub barred : List (List ℕ)
  pub distinct : AreDistinct barred
  pub known : All (λ bytes. Contains candidates bytes) barred
  pub each : All (HasBarred accepts check given) barred
  pub many : count ≤ length barred

-- What is answered of paths. Where no path is valid, whatever the statuses are, it is what a search for one tells.
abbrev pub AnswersPath : Accepting → Wanted → Option RevocationCheck → List GivenCrl → Result Found VerifyError → Type 0
AnswersPath accepts wanted check given (Ok found) = FindsUsable accepts wanted check given found
AnswersPath accepts wanted check given (Err OtherName) = ⊥
AnswersPath accepts wanted check given (Err (Path error)) = Answers accepts wanted (Err error)
AnswersPath accepts wanted check given (Err (Revocation refused)) = NoneIsUsable accepts wanted check given × IsTold accepts wanted check given refused
AnswersPath accepts wanted check given (Err TooManyRefused) =
    (asked : RevocationCheck) × (check ≡ Some asked) × AreBarred accepts asked given wanted.candidates (suc asked.max_refused)

-- First of all the name is asked, of what is a certificate.
abbrev pub AnswersPeer : Accepting → Wanted → Option PeerName → Option RevocationCheck → List GivenCrl → Result Found VerifyError → Type 0
AnswersPeer accepts wanted name check given (Err OtherName) = IsDecodable wanted.leaf × (NamesPeer name wanted.leaf → ⊥)
AnswersPeer accepts wanted name check given (Err (Path error)) = (IsDecodable wanted.leaf → NamesPeer name wanted.leaf) × AnswersPath accepts wanted check given (Err (Path error))
AnswersPeer accepts wanted name check given result = NamesPeer name wanted.leaf × AnswersPath accepts wanted check given result
