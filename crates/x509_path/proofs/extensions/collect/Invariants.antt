use Rattle.std.proofs.Common.{◌≡◌, ◌++◌, length}
use Rattle.x509_check.specs.ExtensionRefs.{extensions_left}
use Rattle.x509_path.specs.Lent.{lent_extensions}
use Rattle.x509_path.proofs.extensions.collect.Given as goal

-- those so far stand before those that are left
abbrev pub invariant-loop-extension : goal.invariant-loop-extension
invariant-loop-extension l = lent_extensions l.list.items ++ extensions_left l.rest ≡ extensions_left l.extensions

abbrev pub decreases-loop-extension : goal.decreases-loop-extension
decreases-loop-extension l = length (extensions_left l.rest)
