use Rattle.std.proofs.Common.{List, take}
use Rattle.std.specs.List.{All}
use Rattle.x509_path.specs.Certificates.{Certificate}
use Rattle.x509_path.specs.Lent.{Lends}
use Rattle.x509_revocation.specs.Faults.{Meets, faults}
use Rattle.x509_revocation.specs.Lent.{LendsAll, LendsGiven, question}
use Rattle.x509_revocation.specs.Points.{HasPoints}
use Rattle.x509_revocation.specs.Says.{GivenCrl}
use Rattle.x509_revocation.proofs.steps.Asked.first_fault.Given as goal

-- all that was asked so far is met
abbrev pub invariant-loop-fault : goal.invariant-loop-fault
invariant-loop-fault g l = (certificate : Certificate) (all : List GivenCrl) (given : GivenCrl) → Lends l.self.certificate.now.bytes.now certificate
    → HasPoints certificate l.self.points.now → LendsAll l.self.crls.now all → LendsGiven l.given given
    → All (Meets (question (g.V.SliceVerifier.accepts l.self.verifier.now) l.self.settings.now certificate) all given) (take l.fault-index faults)
