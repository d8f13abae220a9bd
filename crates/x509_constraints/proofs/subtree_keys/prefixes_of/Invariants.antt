use Rattle.std.proofs.Common.{◌≡◌, take}
use Rattle.x509_constraints.specs.SubtreeKeys.{prefixes_of}
use Rattle.x509_constraints.proofs.subtree_keys.prefixes_of.Given as goal

abbrev pub invariant-loop-subtree : goal.invariant-loop-subtree
invariant-loop-subtree l = l.prefixes.items ≡ prefixes_of (take l.subtree-index l.subtrees)
