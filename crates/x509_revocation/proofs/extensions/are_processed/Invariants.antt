use Rattle.std.proofs.Common.{◌≡◌, ◌⊎◌, true, length}
use Rattle.x509_check.specs.ExtensionRefs.{extensions_left}
use Rattle.x509_path.specs.Certificates.{IsReadable}
use Rattle.x509_revocation.proofs.Looks.{StandsFor}
use Rattle.x509_revocation.proofs.extensions.are_processed.Given as goal

-- what is left stands for all
abbrev pub invariant-loop-extension : goal.invariant-loop-extension
invariant-loop-extension g l = StandsFor (λ e. e.critical ≡ true → IsReadable g.T.Grammar.form g.T.AssociatedOid.OID e ⊎ IsReadable g.U.Grammar.form g.U.AssociatedOid.OID e) (extensions_left l.rest) (extensions_left l.extensions)

abbrev pub decreases-loop-extension : goal.decreases-loop-extension
decreases-loop-extension g l = length (extensions_left l.rest)
