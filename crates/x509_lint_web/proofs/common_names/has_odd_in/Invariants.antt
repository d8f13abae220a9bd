use Rattle.std.proofs.Common.{◌≡◌, length}
use Rattle.x509_lint_web.specs.CommonName.{has_odd_name}
use Rattle.x509_lint_web.proofs.common_names.has_odd_in.Given as goal

abbrev pub invariant-loop-rdns : goal.invariant-loop-rdns
invariant-loop-rdns l = has_odd_name l.fault l.names l.rdns ≡ has_odd_name l.fault l.names l.initial.rdns

abbrev pub decreases-loop-rdns : goal.decreases-loop-rdns
decreases-loop-rdns l = length l.rdns
