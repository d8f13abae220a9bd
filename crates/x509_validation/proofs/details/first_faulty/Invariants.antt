use Rattle.std.proofs.Common.{◌≡◌, ◌++◌, List, length}
use Rattle.std.specs.List.{All}
use Rattle.x509_check.specs.ExtensionRefs.{extensions_left}
use Rattle.x509_ext.specs.declared.extension.Extension.{Extension}
use Rattle.x509_validation.specs.Details.{IsFaulty}
use Rattle.x509_validation.proofs.details.first_faulty.Given as goal

-- none of those so far, which stand before those that are left
abbrev pub invariant-loop-extension : goal.invariant-loop-extension
invariant-loop-extension l =
    (before : List Extension) × (extensions_left l.extensions ≡ before ++ extensions_left l.rest) × All (λ e. IsFaulty l.asks_purpose l.reason e → ⊥) before

abbrev pub decreases-loop-extension : goal.decreases-loop-extension
decreases-loop-extension l = length (extensions_left l.rest)
