use Rattle.std.proofs.Common.{◌∷◌, take}
use Rattle.std.specs.Fmt.{HasWritten, IsPlainFormatter}
use Rattle.x509_der.specs.Arcs.{dotted}
use Rattle.x509_der.proofs.oid.identifier.ObjectIdentifierDisplay.fmt.Given as goal

abbrev pub invariant-loop-arc : goal.invariant-loop-arc
invariant-loop-arc g l =
    IsPlainFormatter l.fn.f → HasWritten g.W.Write.write_str_gives l.fn.f (dotted (l.root ∷ l.second ∷ take l.arc-index l.others)) l.f
