use Rattle.std.proofs.Common.{◌≡◌, ◌+◌, drop}
use Rattle.x509_c_calls.proofs.path.places.place_of.Given as goal
use Rattle.x509_c_calls.specs.PathFinding.{first_place}
use Rattle.x509_verify.specs.Found.{octets}

-- the first of those that are left is the first of all
abbrev pub invariant-loop-place : goal.invariant-loop-place
invariant-loop-place l = l.place + first_place (octets (drop l.place l.all)) l.bytes ≡ first_place (octets l.all) l.bytes
