use Rattle.std.proofs.Common.{◌≡◌, take, false, Some}
use Rattle.x509_name.specs.Cutting.{passes}
use Rattle.x509_name.proofs.text.parts.first_part.Given as goal

abbrev pub invariant-loop-i : goal.invariant-loop-i
invariant-loop-i l = passes l.separator (take l.i l.text) false ≡ Some l.escaped
