use Rattle.std.proofs.Common.{◌≡◌, ◌≤◌, ◌-◌, ◌++◌, length, take}
use Rattle.x509_crl_index.specs.Places.{places_at, places_in}
use Rattle.x509_crl_index.proofs.places.put_places.Given as goal

-- what was put, and what is left
abbrev pub invariant-loop-place : goal.invariant-loop-place
invariant-loop-place l = record {
  within : length l.rest ≤ length l.octets;
  same : take l.place-index l.places ++ places_at (length l.octets - l.place-index) (length l.octets) l.rest ≡ places_in l.octets;
}
