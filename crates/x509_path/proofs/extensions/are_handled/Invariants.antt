use Rattle.std.proofs.Common.{◌≡◌, true, take}
use Rattle.std.specs.List.{All}
use Rattle.x509_check.specs.ExtensionRefs.{lent_extension}
use Rattle.x509_path.specs.Certificates.{IsKnown}
use Rattle.x509_path.proofs.extensions.are_handled.Given as goal

abbrev pub invariant-loop-extension : goal.invariant-loop-extension
invariant-loop-extension l = All (λ e. e.critical ≡ true → IsKnown (lent_extension e)) (take l.extension-index l.extensions)
