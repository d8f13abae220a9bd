use Rattle.std.proofs.Common.{◌≡◌, length, map}
use Rattle.x509_c_calls.specs.Kinds.{named_in}
use Rattle.x509_c_calls.proofs.key.kinds.find.Given as goal

abbrev pub invariant-loop-rows : goal.invariant-loop-rows
invariant-loop-rows g l =
    named_in l.other (map (λ r. (r.0.now, r.1)) l.rows) l.octets
    ≡ named_in l.other (map (λ r. (r.0.now, r.1)) l.initial.rows) l.octets

abbrev pub decreases-loop-rows : goal.decreases-loop-rows
decreases-loop-rows g l = length l.rows
