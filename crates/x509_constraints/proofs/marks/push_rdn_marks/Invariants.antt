use Rattle.std.proofs.Common.{◌≡◌, ◌++◌, take}
use Rattle.std.specs.List.{flat_map}
use Rattle.x509_constraints.specs.Marks.{marks_against}
use Rattle.x509_constraints.proofs.marks.push_rdn_marks.Given as goal

abbrev pub invariant-loop-attribute : goal.invariant-loop-attribute
invariant-loop-attribute l = l.keys.items ≡ l.initial.keys.items ++ flat_map (λ b. marks_against l.place b) (take l.attribute-index l.rdn)
