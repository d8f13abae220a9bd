use Rattle.std.proofs.Common.{take}
use Rattle.std.specs.List.{All}
use Rattle.x509_check.specs.ExtensionRefs.{lent_extension}
use Rattle.x509_path_steps.specs.Validation.{IsDecodable}
use Rattle.x509_validation.proofs.processed.are_spelled.Given as goal

abbrev pub invariant-loop-extension : goal.invariant-loop-extension
invariant-loop-extension l = All (λ e. IsDecodable (lent_extension e)) (take l.extension-index l.extensions)
