use Rattle.std.proofs.Common.{◌≡◌, List, None, take}
use Rattle.std.specs.List.{All}
use Rattle.x509_path.specs.Certificates.{AreEqual, Certificate, extensions_of}
use Rattle.x509_path.specs.Lent.{Lends, StandsAbove, lent_extensions}
use Rattle.x509_path.specs.Path.{Breaks, reasons}
use Rattle.x509_path.specs.PathLength.{Leaves, standing}
use Rattle.x509_path.specs.declared.anchor.Anchor.{Anchor}
use Rattle.x509_path.proofs.judge.Judge.judge_lent.Given as goal

-- none of the reasons so far holds
abbrev pub invariant-loop-reason : goal.invariant-loop-reason
invariant-loop-reason g l =
    (c : Certificate) (above : Anchor) → Lends l.fn.certificate.bytes.now c → lent_extensions l.fn.extensions ≡ extensions_of c → StandsAbove (g.T.Trust.is_anchor l.self.trust.now) l.place.above above
    → (before : List Certificate) → Leaves AreEqual None before l.place.max_path_length
    → All (λ r. Breaks (g.T.Trust.accepts l.self.trust.now) l.self.moment (standing above.name above.key before l.place.is_last) l.fn.certificate.bytes.now c r → ⊥) (take l.reason-index reasons)
