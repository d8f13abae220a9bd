use Rattle.std.proofs.Common.{◌≡◌, length}
use Rattle.x509_ext.specs.LookUp.{with_oid}
use Rattle.x509_ext.proofs.look_up.split_first_with.Given as goal

-- what was passed has another identifier
abbrev pub invariant-loop-first : goal.invariant-loop-first
invariant-loop-first l = with_oid l.oid l.rest ≡ with_oid l.oid l.extensions

abbrev pub decreases-loop-first : goal.decreases-loop-first
decreases-loop-first l = length l.rest
