use Rattle.std.proofs.Common.{◌≡◌, length}
use Rattle.x509_build.specs.Order.{is_there}
use Rattle.x509_build.proofs.profile.encoding.is_there.Given as goal

-- none that was passed has the type
abbrev pub invariant-loop-attributes : goal.invariant-loop-attributes
invariant-loop-attributes l = is_there l.oid l.attributes ≡ is_there l.oid l.initial.attributes

abbrev pub decreases-loop-attributes : goal.decreases-loop-attributes
decreases-loop-attributes l = length l.attributes
