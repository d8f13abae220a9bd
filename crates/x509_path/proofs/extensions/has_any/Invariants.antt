use Rattle.std.proofs.Common.{◌≡◌, drop}
use Rattle.x509_ext.specs.LookUp.{with_oid}
use Rattle.x509_path.specs.Lent.{lent_extensions}
use Rattle.x509_path.proofs.extensions.has_any.Given as goal

-- what was passed has another identifier
abbrev pub invariant-loop-extension : goal.invariant-loop-extension
invariant-loop-extension l = with_oid l.oid (lent_extensions l.extensions) ≡ with_oid l.oid (lent_extensions (drop l.extension-index l.extensions))
