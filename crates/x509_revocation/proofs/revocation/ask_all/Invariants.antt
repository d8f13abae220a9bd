use Rattle.std.proofs.Common.{List, drop}
use Rattle.x509_path.specs.Certificates.{Certificate}
use Rattle.x509_path.specs.Lent.{Lends}
use Rattle.x509_revocation.specs.Lent.{LendsAll, question}
use Rattle.x509_revocation.specs.Points.{HasPoints}
use Rattle.x509_revocation.specs.Says.{GivenCrl}
use Rattle.x509_revocation.proofs.Answered.{Goes}
use Rattle.x509_revocation.proofs.revocation.ask_all.Given as goal

-- what is answered to the CRLs that are left is the answer
abbrev pub invariant-loop-place : goal.invariant-loop-place
invariant-loop-place g l = (certificate : Certificate) (given : List GivenCrl) → Lends l.asked.certificate.now.bytes.now certificate → HasPoints certificate l.asked.points.now
    → LendsAll l.asked.crls.now given
    → Goes (question (g.V.SliceVerifier.accepts l.asked.verifier.now) l.asked.settings.now certificate) given (drop l.place l.crls) l.place l.left
