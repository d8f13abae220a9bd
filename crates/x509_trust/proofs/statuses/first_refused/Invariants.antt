use Rattle.std.proofs.Common.{◌<◌, ℕ, List, get_or}
use Rattle.x509_revocation.specs.Lent.{LendsAll}
use Rattle.x509_revocation.specs.Says.{GivenCrl}
use Rattle.x509_trust.specs.Peers.{Passes}
use Rattle.x509_verify.specs.Found.{octets}
use Rattle.x509_trust.proofs.statuses.first_refused.Given as goal

-- those before it pass
abbrev pub invariant-loop-bytes : goal.invariant-loop-bytes
invariant-loop-bytes g l = (given : List GivenCrl) → LendsAll l.check.crls.now given
    → (k : ℕ) (d : List ℕ) → k < l.bytes-index → Passes (g.V.SliceVerifier.accepts l.verifier) l.check given (get_or (octets l.certificates) k d)
