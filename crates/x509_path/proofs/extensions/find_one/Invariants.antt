use Rattle.std.proofs.Common.{◌≡◌, drop}
use Rattle.x509_ext.specs.LookUp.{with_oid}
use Rattle.x509_path.specs.Lent.{lent_extensions}
use Rattle.x509_path.proofs.extensions.find_one.Given as goal

-- what was passed has another identifier
abbrev pub invariant-loop-index : goal.invariant-loop-index
invariant-loop-index l = with_oid l.oid (lent_extensions l.extensions) ≡ with_oid l.oid (lent_extensions (drop l.index l.extensions))
