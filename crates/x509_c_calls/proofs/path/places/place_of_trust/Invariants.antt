use Rattle.std.proofs.Common.{◌≡◌, ◌+◌, drop}
use Rattle.x509_c_calls.proofs.path.places.place_of_trust.Given as goal
use Rattle.x509_c_calls.specs.PathFinding.{first_trust}

-- the first of those that are left is the first of all
abbrev pub invariant-loop-place : goal.invariant-loop-place
invariant-loop-place l = l.place + first_trust (drop l.place l.all) l.one ≡ first_trust l.all l.one
