use Rattle.std.proofs.Common.{◌≡◌, length}
use Rattle.std.specs.List.{list_any}
use Rattle.x509_lint_web.specs.CommonName.{is_odd_name}
use Rattle.x509_lint_web.proofs.common_names.is_odd_in.Given as goal

abbrev pub invariant-loop-attributes : goal.invariant-loop-attributes
invariant-loop-attributes l = list_any (is_odd_name l.fault l.names) l.attributes ≡ list_any (is_odd_name l.fault l.names) l.initial.attributes

abbrev pub decreases-loop-attributes : goal.decreases-loop-attributes
decreases-loop-attributes l = length l.attributes
