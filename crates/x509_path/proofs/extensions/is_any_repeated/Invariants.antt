use Rattle.std.proofs.Common.{◌↔◌, drop}
use Rattle.x509_ext.specs.LookUp.{IsRepeated}
use Rattle.x509_path.specs.Lent.{lent_extensions}
use Rattle.x509_path.proofs.extensions.is_any_repeated.Given as goal

-- none that was passed has the identifier of another
abbrev pub invariant-loop-index : goal.invariant-loop-index
invariant-loop-index l = IsRepeated (lent_extensions l.extensions) ↔ IsRepeated (lent_extensions (drop l.index l.extensions))
