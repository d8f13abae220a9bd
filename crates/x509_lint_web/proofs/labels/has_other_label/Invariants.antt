use Rattle.std.proofs.Common.{drop, length, ◌==◌}
use Rattle.std.specs.List.{slice_split}
use Rattle.x509_lint_web.specs.Label.{is_other_label}
use Rattle.x509_lint.proofs.LabelSteps.{LeavesTo}
use Rattle.x509_lint_web.proofs.labels.has_other_label.Given as goal

-- none of the labels so far is one
abbrev pub invariant-loop-label : goal.invariant-loop-label
invariant-loop-label l = record {
  can_next : (goal.iterator-loop-label).can_next l.label-iterator;
  is_finite : (goal.iterator-loop-label).is_finite l.label-iterator;
  left : LeavesTo is_other_label (slice_split (λ octet. octet == 46) l.text) (drop (length l.yielded) (slice_split (λ octet. octet == 46) l.text));
}
