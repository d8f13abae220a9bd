use Rattle.std.proofs.Common.{List, drop}
use Rattle.x509_path.specs.Certificates.{Certificate}
use Rattle.x509_path.specs.Lent.{Lends}
use Rattle.x509_revocation.specs.Lent.{LendsAll, LendsNamed, question}
use Rattle.x509_revocation.specs.Says.{GivenCrl}
use Rattle.x509_revocation.proofs.Newest.{Sees}
use Rattle.x509_revocation.proofs.steps.Asked.look_in_deltas.Given as goal

-- some of the CRLs were looked at, and the others are left
abbrev pub invariant-loop-place : goal.invariant-loop-place
invariant-loop-place g l = (certificate : Certificate) (all : List GivenCrl) (complete : GivenCrl) → Lends l.self.certificate.now.bytes.now certificate
    → LendsAll l.self.crls.now all → LendsNamed l.complete complete
    → Sees (question (g.V.SliceVerifier.accepts l.self.verifier.now) l.self.settings.now certificate) l.is_indirect complete all (drop l.place l.crls) l.place l.newest l.found
