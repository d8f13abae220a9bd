use Rattle.std.proofs.Common.{◌≡◌, take}
use Rattle.x509_ext.proofs.Repeats.{identifiers_of}
use Rattle.x509_path.specs.Lent.{lent_extensions}
use Rattle.x509_path.proofs.extensions.is_repeated.Given as goal

-- the identifiers so far
abbrev pub invariant-loop-extension : goal.invariant-loop-extension
invariant-loop-extension l = l.identifiers.items ≡ identifiers_of (lent_extensions (take l.extension-index l.extensions))
