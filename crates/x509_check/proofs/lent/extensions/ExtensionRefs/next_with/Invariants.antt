use Rattle.std.proofs.Common.{◌≡◌, ◌++◌, List, length}
use Rattle.x509_check.specs.ExtensionRefs.{extensions_left}
use Rattle.x509_ext.specs.LookUp.{with_oid}
use Rattle.x509_ext.specs.declared.extension.Extension.{Extension}
use Rattle.x509_check.proofs.lent.extensions.ExtensionRefs.next_with.Given as goal

-- what was passed has another OID, and the others are left
abbrev pub invariant-loop-octets : goal.invariant-loop-octets
invariant-loop-octets l =
    (with_oid l.oid (extensions_left l.self) ≡ with_oid l.oid (extensions_left l.fn.self))
    × ((before : List Extension) × (extensions_left l.fn.self ≡ before ++ extensions_left l.self))

abbrev pub decreases-loop-octets : goal.decreases-loop-octets
decreases-loop-octets l = length (extensions_left l.self)
