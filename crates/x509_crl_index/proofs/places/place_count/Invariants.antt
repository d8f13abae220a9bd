use Rattle.std.proofs.Common.{◌≡◌, ◌≤◌, ◌+◌, ◌-◌, length}
use Rattle.x509_crl_index.specs.Places.{places_at, places_in}
use Rattle.x509_crl_index.proofs.places.place_count.Given as goal

-- what was counted, and what is left
abbrev pub invariant-loop-piece : goal.invariant-loop-piece
invariant-loop-piece l = record {
  within : l.count + length l.rest ≤ length l.octets;
  same : l.count + length (places_at (length l.octets - l.count) (length l.octets) l.rest) ≡ length (places_in l.octets);
}

abbrev pub decreases-loop-piece : goal.decreases-loop-piece
decreases-loop-piece l = length l.rest
