use Rattle.std.proofs.Common.{◌≡◌, ◌≤◌, ◌++◌, length, take}
use Rattle.x509_check.specs.ExtensionRefs.{extensions_left}
use Rattle.x509_path.specs.Lent.{lent_extensions}
use Rattle.x509_path.proofs.extensions.gather.Given as goal

-- those so far stand before those that are left
abbrev pub invariant-loop-extension : goal.invariant-loop-extension
invariant-loop-extension l = (l.count ≤ length l.few) × (length l.few ≡ length l.fn.few) × (lent_extensions (take l.count l.few) ++ extensions_left l.rest ≡ extensions_left l.extensions)

abbrev pub decreases-loop-extension : goal.decreases-loop-extension
decreases-loop-extension l = length (extensions_left l.rest)
