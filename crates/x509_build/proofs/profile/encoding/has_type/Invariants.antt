use Rattle.std.proofs.Common.{◌≡◌, length}
use Rattle.x509_build.specs.Order.{has_type}
use Rattle.x509_build.proofs.profile.encoding.has_type.Given as goal

-- none that was passed has the type
abbrev pub invariant-loop-rdns : goal.invariant-loop-rdns
invariant-loop-rdns l = has_type l.oid l.rdns ≡ has_type l.oid l.initial.rdns

abbrev pub decreases-loop-rdns : goal.decreases-loop-rdns
decreases-loop-rdns l = length l.rdns
