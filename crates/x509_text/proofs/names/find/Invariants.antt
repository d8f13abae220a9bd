use Rattle.std.proofs.Common.{◌≡◌, length, map}
use Rattle.x509_text.specs.Names.{first_name}
use Rattle.x509_text.specs.OidNames.{row}
use Rattle.x509_text.proofs.names.find.Given as goal

abbrev pub invariant-loop-rows : goal.invariant-loop-rows
invariant-loop-rows l =
    first_name l.octets (map (λ r. row r.0.now r.1.now) l.rows) ≡ first_name l.octets (map (λ r. row r.0.now r.1.now) l.initial.rows)

abbrev pub decreases-loop-rows : goal.decreases-loop-rows
decreases-loop-rows l = length l.rows
