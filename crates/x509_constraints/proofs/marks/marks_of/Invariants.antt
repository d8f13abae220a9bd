use Rattle.std.proofs.Common.{◌≡◌, take}
use Rattle.x509_constraints.specs.Marks.{marks_of}
use Rattle.x509_constraints.proofs.marks.marks_of.Given as goal

abbrev pub invariant-loop-subtree : goal.invariant-loop-subtree
invariant-loop-subtree l = l.keys.items ≡ marks_of (take l.subtree-index l.subtrees)
