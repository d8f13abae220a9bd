-- Where the octets of a value lie.
use Rattle.std.specs.Prelude.{ℕ, ◌≤◌, List, take, ⊤}
use Rattle.x509_der.specs.declared.bytes.Place.{Place}
use Rattle.x509_der.specs.declared.bytes.Place.TheVariants.{Inside, Apart}

-- the octets, wherever they lie
abbrev pub octets_at : Place → List ℕ
octets_at (Inside alloc len octets) = take len octets
octets_at (Apart octets) = octets.items

-- inside the value there is room for 24
abbrev pub IsSound : Place → Type 0
IsSound (Inside alloc len octets) = len ≤ 24
IsSound (Apart octets) = ⊤
