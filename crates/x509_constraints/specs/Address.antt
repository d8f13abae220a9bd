-- IP addresses under constraints (RFC 5280 4.2.1.10).
use Rattle.std.specs.Prelude.{◌≡◌, ℕ, ◌+◌, ◌<◌, ◌==◌, ◌&&◌, ◌||◌, Bool, true, List, [], ◌∷◌, length, take, drop, bit_and, slice_index, if◌then◌else◌}
use Rattle.std.specs.List.{list_any}

-- ---- masks

-- an octet that begins with ones, or none, and has a zero behind them
abbrev pub is_partial : ℕ → Bool
is_partial m = list_any (λ p. m == p) (0x00 ∷ 0x80 ∷ 0xC0 ∷ 0xE0 ∷ 0xF0 ∷ 0xF8 ∷ 0xFC ∷ 0xFE ∷ [])

abbrev pub is_zeros : List ℕ → Bool
is_zeros [] = true
is_zeros (z ∷ zs) = (z == 0) && is_zeros zs

-- its ones come first
abbrev pub is_mask : List ℕ → Bool
is_mask [] = true
is_mask (m ∷ ms) = if m == 0xFF then is_mask ms else (is_partial m && is_zeros ms)

-- an address and a mask, for IPv4 or for IPv6
abbrev pub is_address_subtree : List ℕ → Bool
is_address_subtree subtree = ((length subtree == 8) && is_mask (drop 4 subtree)) || ((length subtree == 32) && is_mask (drop 16 subtree))

-- ---- addresses

-- they are the same where the mask has ones
abbrev pub IsSameMasked : List ℕ → List ℕ → List ℕ → Type 0
IsSameMasked name address mask =
    (k : ℕ) → k < length name → bit_and (slice_index name k) (slice_index mask k) ≡ bit_and (slice_index address k) (slice_index mask k)

-- the subtree is the address and the mask, each as long as the name
abbrev pub IsWithinAddress : List ℕ → List ℕ → Type 0
IsWithinAddress name subtree = (is_address_subtree subtree ≡ true) × (length name + length name ≡ length subtree)
    × IsSameMasked name (take (length name) subtree) (drop (length name) subtree)
