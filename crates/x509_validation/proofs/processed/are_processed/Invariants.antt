use Rattle.std.proofs.Common.{◌≡◌, true, take}
use Rattle.std.specs.List.{All}
use Rattle.x509_check.specs.ExtensionRefs.{lent_extension}
use Rattle.x509_path_steps.specs.Validation.{IsProcessed}
use Rattle.x509_validation.proofs.processed.are_processed.Given as goal

abbrev pub invariant-loop-extension : goal.invariant-loop-extension
invariant-loop-extension l = All (λ e. e.critical ≡ true → IsProcessed l.asks_purpose (lent_extension e)) (take l.extension-index l.extensions)
