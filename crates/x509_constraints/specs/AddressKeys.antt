-- Keys of IP addresses: for each octet how it begins, by one bit more at a time.
use Rattle.std.specs.Prelude.{ℕ, Bool, ◌/◌, ◌%◌, ◌==◌, ◌||◌, List, [], ◌∷◌, ◌++◌, length, take, drop, if◌then◌else◌}
use Rattle.std.specs.List.{flat_map}
use Rattle.x509_constraints.specs.Address.{is_address_subtree}

-- the first bit of an octet, its first two, and so on
abbrev pub beginnings : ℕ → List ℕ
beginnings octet = (octet / 128) ∷ (octet / 64) ∷ (octet / 32) ∷ (octet / 16) ∷ (octet / 8) ∷ (octet / 4) ∷ (octet / 2) ∷ octet ∷ []

-- what is below 256
abbrev pub octet_symbols : ℕ → List ℕ
octet_symbols octet = beginnings (octet % 256)

-- how many ones an octet of a mask begins with
abbrev pub ones : ℕ → ℕ
ones m = if m == 0xFF then 8 else if m == 0xFE then 7 else if m == 0xFC then 6 else if m == 0xF8 then 5 else if m == 0xF0 then 4 else if m == 0xE0 then 3
    else if m == 0xC0 then 2 else if m == 0x80 then 1 else 0

abbrev pub spread : List ℕ → List ℕ
spread octets = flat_map octet_symbols octets

-- what the mask leaves of it
abbrev pub narrowed : List ℕ → List ℕ → List ℕ
narrowed [] mask = []
narrowed (a ∷ address) [] = []
narrowed (a ∷ address) (m ∷ mask) = take (ones m) (octet_symbols a) ++ narrowed address mask

abbrev pub is_address : List ℕ → Bool
is_address name = (length name == 4) || (length name == 16)

-- behind the length, by which the two kinds differ
abbrev pub address_key : List ℕ → List ℕ
address_key name = if is_address name then length name ∷ spread name else []

abbrev pub address_prefix : ℕ → List ℕ → List ℕ
address_prefix half subtree = half ∷ narrowed (take half subtree) (drop half subtree)

abbrev pub address_prefixes : List ℕ → List (List ℕ)
address_prefixes subtree = if is_address_subtree subtree then address_prefix (length subtree / 2) subtree ∷ [] else []
