use Rattle.std.proofs.Common.{◌≡◌, ℕ, List, take}
use Rattle.std.specs.List.{All}
use Rattle.x509_path.specs.Certificates.{Certificate, extensions_of}
use Rattle.x509_path.specs.Lent.{Lends, lent_extensions}
use Rattle.x509_path.specs.declared.anchor.Anchor.{Anchor}
use Rattle.x509_path_steps.specs.Inputs.{Inputs}
use Rattle.x509_path_steps.specs.Validation.{Breaks, own_reasons}
use Rattle.x509_validation.proofs.validator.Validator.judge_parts.Given as goal
use Rattle.x509_validation.specs.Judging.{Stands, standing}

-- none of the reasons so far holds
abbrev pub invariant-loop-reason : goal.invariant-loop-reason
invariant-loop-reason g l =
    (inputs : Inputs) (above : Anchor) (before : List Certificate) (n : ℕ) (c : Certificate) → Stands inputs above before l.self.moment l.stand.above l.stand.max_path_length l.stand.sets.now
    → Lends l.fn.certificate.bytes.now c → lent_extensions l.fn.extensions ≡ extensions_of c
    → All (λ r. Breaks (g.S.Trust.accepts l.self.signatures.now) inputs (standing above before l.stand.is_last n) l.fn.certificate.bytes.now c r → ⊥) (take l.reason-index own_reasons)
