use Rattle.std.proofs.Common.{◌≡◌, ◌++◌, List, [], length}
use Rattle.x509_check.specs.ExtensionRefs.{extensions_left}
use Rattle.x509_der.specs.Form.{spelling}
use Rattle.x509_der.specs.List.{joined}
use Rattle.x509_ext.specs.Extension.{extension}
use Rattle.x509_ext.specs.LookUp.{with_oid}
use Rattle.x509_ext.specs.declared.extension.Extension.{Extension}
use Rattle.x509_log.proofs.around.split_around.Given as goal

-- what was passed has other OIDs, and ends at the place
abbrev pub invariant-loop-extension : goal.invariant-loop-extension
invariant-loop-extension l =
    (before : List Extension)
    × (extensions_left l.fn.list ≡ before ++ extensions_left l.rest)
    × (with_oid l.oid before ≡ [])
    × (l.place ≡ length (joined (spelling extension) before))

abbrev pub decreases-loop-extension : goal.decreases-loop-extension
decreases-loop-extension l = length (extensions_left l.rest)
