use Rattle.std.proofs.Common.{◌≡◌, length, map}
use Rattle.x509_name.specs.Keys.{first_where, is_named, row}
use Rattle.x509_name.proofs.text.keys.find_named.Given as goal

abbrev pub invariant-loop-rows : goal.invariant-loop-rows
invariant-loop-rows l =
    first_where (is_named l.name) (map (λ r. row r.0.now r.1.now r.2.now r.3) l.rows)
    ≡ first_where (is_named l.name) (map (λ r. row r.0.now r.1.now r.2.now r.3) l.initial.rows)

abbrev pub decreases-loop-rows : goal.decreases-loop-rows
decreases-loop-rows l = length l.rows
