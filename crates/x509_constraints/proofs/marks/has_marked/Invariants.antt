use Rattle.std.proofs.Common.{◌≡◌, false, take}
use Rattle.std.specs.List.{list_any}
use Rattle.x509_constraints.specs.Marks.{mark_at}
use Rattle.x509_constraints.specs.Stacks.{in_some}
use Rattle.x509_constraints.proofs.marks.has_marked.Given as goal

abbrev pub invariant-loop-attribute : goal.invariant-loop-attribute
invariant-loop-attribute l = list_any (λ a. in_some l.sets (mark_at l.place a)) (take l.attribute-index l.rdn) ≡ false
