use Rattle.std.proofs.Common.{◌≡◌, ◌++◌}
use Rattle.x509_constraints.specs.SubtreeKeys.{open_below, prefixes_of}
use Rattle.x509_constraints.proofs.subtree_keys.permitted_prefixes.Given as goal

abbrev pub invariant-loop-form : goal.invariant-loop-form
invariant-loop-form l = l.prefixes.items ≡ prefixes_of l.subtrees ++ open_below l.subtrees l.form
