use Rattle.std.proofs.Common.{◌≡◌, ◌++◌, take}
use Rattle.x509_constraints.specs.Marks.{base_marks}
use Rattle.x509_constraints.proofs.marks.push_base_marks.Given as goal

abbrev pub invariant-loop-i : goal.invariant-loop-i
invariant-loop-i l = l.keys.items ≡ l.initial.keys.items ++ base_marks 0 (take l.i l.base)
