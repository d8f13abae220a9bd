-- Serial numbers that Rfc5280 lets stand in reading.
use Rattle.std.specs.Prelude.{◌≡◌, ℕ, ◌≤◌, List, length, Ok, refl}
use Rattle.std.proofs.lemmas.Bool.{le-ltb}
use Rattle.x509_base.specs.Profiles.{rfc5280_serial_number}

pub few_octets_stand : (content : List ℕ) → length content ≤ 21 → rfc5280_serial_number content ≡ Ok tt
few_octets_stand content few = rw (le-ltb 21 (length content) few) refl
