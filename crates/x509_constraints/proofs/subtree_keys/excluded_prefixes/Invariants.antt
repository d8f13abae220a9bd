use Rattle.std.proofs.Common.{◌≡◌, take}
use Rattle.x509_constraints.specs.SubtreeKeys.{excluded_prefixes}
use Rattle.x509_constraints.proofs.subtree_keys.excluded_prefixes.Given as goal

abbrev pub invariant-loop-subtree : goal.invariant-loop-subtree
invariant-loop-subtree l = l.prefixes.items ≡ excluded_prefixes (take l.subtree-index l.subtrees)
