use Rattle.std.proofs.Common.{◌≡◌, length}
use Rattle.std.specs.List.{list_any}
use Rattle.x509_lint_web.specs.Constrained.{is_base}
use Rattle.x509_lint_web.proofs.constraints.is_base_among.Given as goal

abbrev pub invariant-loop-subtrees : goal.invariant-loop-subtrees
invariant-loop-subtrees l =
    list_any (λ subtree. is_base l.fn.base subtree.base) l.subtrees ≡ list_any (λ subtree. is_base l.fn.base subtree.base) l.initial.subtrees

abbrev pub decreases-loop-subtrees : goal.decreases-loop-subtrees
decreases-loop-subtrees l = length l.subtrees
