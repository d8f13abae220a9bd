use Rattle.std.proofs.Common.{◌≡◌, length}
use Rattle.std.specs.List.{list_any}
use Rattle.x509_lint_web.specs.CommonName.{is_copy}
use Rattle.x509_lint_web.proofs.common_names.is_copy_among.Given as goal

abbrev pub invariant-loop-names : goal.invariant-loop-names
invariant-loop-names l = list_any (is_copy l.text) l.names ≡ list_any (is_copy l.text) l.initial.names

abbrev pub decreases-loop-names : goal.decreases-loop-names
decreases-loop-names l = length l.names
