use Rattle.std.proofs.Common.{◌≡◌, false, take}
use Rattle.std.specs.List.{list_any}
use Rattle.x509_constraints.specs.Marks.{name_marks}
use Rattle.x509_constraints.specs.Stacks.{in_some}
use Rattle.x509_constraints.proofs.marks.has_marks_in_name.Given as goal

abbrev pub invariant-loop-i : goal.invariant-loop-i
invariant-loop-i l = list_any (in_some l.sets) (name_marks 0 (take l.i l.name)) ≡ false
