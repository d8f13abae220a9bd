use Rattle.std.proofs.Common.{◌≡◌, length, map}
use Rattle.x509_name.specs.Keys.{first_where, has_octets, row}
use Rattle.x509_name.proofs.text.keys.find_octets.Given as goal

abbrev pub invariant-loop-rows : goal.invariant-loop-rows
invariant-loop-rows l =
    first_where (has_octets l.octets) (map (λ r. row r.0.now r.1.now r.2.now r.3) l.rows)
    ≡ first_where (has_octets l.octets) (map (λ r. row r.0.now r.1.now r.2.now r.3) l.initial.rows)

abbrev pub decreases-loop-rows : goal.decreases-loop-rows
decreases-loop-rows l = length l.rows
