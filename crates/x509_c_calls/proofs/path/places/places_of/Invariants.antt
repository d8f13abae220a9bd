use Rattle.std.proofs.Common.{◌≡◌, map, take}
use Rattle.x509_c_calls.proofs.path.places.places_of.Given as goal
use Rattle.x509_c_calls.specs.PathFinding.{first_place}
use Rattle.x509_verify.specs.Found.{octets}

abbrev pub invariant-loop-bytes : goal.invariant-loop-bytes
invariant-loop-bytes l = l.places.items ≡ map (first_place (octets l.all)) (octets (take l.bytes-index l.some))
