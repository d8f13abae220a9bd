use Rattle.std.proofs.Common.{◌≡◌, take}
use Rattle.x509_ext.proofs.Repeats.{identifiers_of}
use Rattle.x509_ext.proofs.look_up.has_repeated_extension.Given as goal

-- the identifiers so far
abbrev pub invariant-loop-extension : goal.invariant-loop-extension
invariant-loop-extension l = l.identifiers.items ≡ identifiers_of (take l.extension-index l.extensions)
