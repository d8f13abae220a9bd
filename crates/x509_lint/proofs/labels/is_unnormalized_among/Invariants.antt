use Rattle.std.proofs.Common.{◌≡◌, length}
use Rattle.std.specs.List.{list_any}
use Rattle.x509_lint.specs.Label.{is_unnormalized_name}
use Rattle.x509_lint.proofs.labels.is_unnormalized_among.Given as goal

abbrev pub invariant-loop-names : goal.invariant-loop-names
invariant-loop-names l = list_any is_unnormalized_name l.names ≡ list_any is_unnormalized_name l.initial.names

abbrev pub decreases-loop-names : goal.decreases-loop-names
decreases-loop-names l = length l.names
