use Rattle.std.proofs.Common.{List, drop}
use Rattle.x509_path.specs.Certificates.{Certificate}
use Rattle.x509_path.specs.Lent.{Lends}
use Rattle.x509_revocation.specs.Lent.{LendsAll, LendsNamed, question}
use Rattle.x509_revocation.specs.Says.{GivenCrl, Replaces}
use Rattle.x509_revocation.proofs.Lists.{Left}
use Rattle.x509_revocation.proofs.steps.Asked.is_current.Given as goal

-- none of the CRLs so far takes the place of this one
abbrev pub invariant-loop-other : goal.invariant-loop-other
invariant-loop-other g l = (certificate : Certificate) (all : List GivenCrl) (older : GivenCrl) → Lends l.self.certificate.now.bytes.now certificate
    → LendsAll l.self.crls.now all → LendsNamed l.given older
    → Left (λ newer. Replaces (question (g.V.SliceVerifier.accepts l.self.verifier.now) l.self.settings.now certificate) l.is_indirect newer older → ⊥) all (drop l.other-index l.crls)
