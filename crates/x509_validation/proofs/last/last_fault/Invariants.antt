use Rattle.std.proofs.Common.{take}
use Rattle.std.specs.List.{All}
use Rattle.x509_path.specs.Certificates.{Certificate}
use Rattle.x509_path.specs.Lent.{Lends}
use Rattle.x509_validation.specs.Last.{BreaksAlone, asked_alone, lone_reasons}
use Rattle.x509_validation.proofs.last.last_fault.Given as goal

-- none of the reasons so far holds
abbrev pub invariant-loop-reason : goal.invariant-loop-reason
invariant-loop-reason l =
    (c : Certificate) → Lends l.fn.certificate.bytes.now c → All (λ r. BreaksAlone (asked_alone l.fn.settings) c r → ⊥) (take l.reason-index lone_reasons)
