use Rattle.std.proofs.Common.{take}
use Rattle.std.specs.List.{All}
use Rattle.x509_lint.specs.Read.{IsWellFormedAs}
use Rattle.x509_lint.proofs.read.are_read.Given as goal

abbrev pub invariant-loop-extension : goal.invariant-loop-extension
invariant-loop-extension g l = All (IsWellFormedAs g.T.Grammar.form l.beyond g.T.AssociatedOid.OID) (take l.extension-index l.extensions)
