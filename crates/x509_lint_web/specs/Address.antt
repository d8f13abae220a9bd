-- Reserved addresses (TLS BR 1.6.1): those in a block of the registries of special-purpose addresses (RFC 6890 2.2), as these were in 2025, and of multicast.
use Rattle.std.specs.Prelude.{◌&&◌, ◌||◌, ◌==◌, ◌+◌, ◌-◌, ◌*◌, ◌^◌, ℕ, Bool, nat_le, length, List, [], ◌∷◌}
use Rattle.std.specs.Int.{from_be_bytes, w32, w128}
use Rattle.std.specs.List.{list_any}
use Rattle.x509_lint_web.specs.Words.{number_of}

-- the first and the last address of a block, as numbers. Its addresses have so many bits, in `places` digits; they begin with the digits of its front, and it
-- fixes so many of their bits, counted from the highest.
abbrev pub block : ℕ → ℕ → ℕ → List ℕ → ℕ → ℕ × ℕ
block base places bits front fixed =
    (number_of base 0 front * base ^ (places - length front), number_of base 0 front * base ^ (places - length front) + (2 ^ (bits - fixed) - 1))

-- the block 192.0.2.0/24 is v4 (192 ∷ 0 ∷ 2 ∷ []) 24
abbrev pub v4 : List ℕ → ℕ → ℕ × ℕ
v4 = block 256 4 32

-- the block 2001:db8::/32 is v6 (0x2001 ∷ 0xDB8 ∷ []) 32
abbrev pub v6 : List ℕ → ℕ → ℕ × ℕ
v6 = block 65536 8 128

-- the registry of IPv4, in its order; 224/4, multicast (RFC 1112 4), stands in front of 240/4
unfoldable pub v4_blocks : List (ℕ × ℕ)
v4_blocks =
    v4 (0 ∷ []) 8
    ∷ v4 (10 ∷ []) 8
    ∷ v4 (100 ∷ 64 ∷ []) 10
    ∷ v4 (127 ∷ []) 8
    ∷ v4 (169 ∷ 254 ∷ []) 16
    ∷ v4 (172 ∷ 16 ∷ []) 12
    ∷ v4 (192 ∷ 0 ∷ 0 ∷ []) 24
    ∷ v4 (192 ∷ 0 ∷ 2 ∷ []) 24
    ∷ v4 (192 ∷ 31 ∷ 196 ∷ []) 24
    ∷ v4 (192 ∷ 52 ∷ 193 ∷ []) 24
    ∷ v4 (192 ∷ 88 ∷ 99 ∷ []) 24
    ∷ v4 (192 ∷ 168 ∷ []) 16
    ∷ v4 (192 ∷ 175 ∷ 48 ∷ []) 24
    ∷ v4 (198 ∷ 18 ∷ []) 15
    ∷ v4 (198 ∷ 51 ∷ 100 ∷ []) 24
    ∷ v4 (203 ∷ 0 ∷ 113 ∷ []) 24
    ∷ v4 (224 ∷ []) 4
    ∷ v4 (240 ∷ []) 4 ∷ []

-- the registry of IPv6, :: and ::1 as one block; ff00::/8, multicast (RFC 4291 2.7), is the last
unfoldable pub v6_blocks : List (ℕ × ℕ)
v6_blocks =
    v6 [] 127
    ∷ v6 (0 ∷ 0 ∷ 0 ∷ 0 ∷ 0 ∷ 0xFFFF ∷ []) 96
    ∷ v6 (0x64 ∷ 0xFF9B ∷ []) 96
    ∷ v6 (0x64 ∷ 0xFF9B ∷ 1 ∷ []) 48
    ∷ v6 (0x100 ∷ []) 64
    ∷ v6 (0x100 ∷ 0 ∷ 0 ∷ 1 ∷ []) 64
    ∷ v6 (0x2001 ∷ []) 23
    ∷ v6 (0x2001 ∷ 0xDB8 ∷ []) 32
    ∷ v6 (0x2002 ∷ []) 16
    ∷ v6 (0x2620 ∷ 0x4F ∷ 0x8000 ∷ []) 48
    ∷ v6 (0x3FFF ∷ []) 20
    ∷ v6 (0x5F00 ∷ []) 16
    ∷ v6 (0xFC00 ∷ []) 7
    ∷ v6 (0xFE80 ∷ []) 10
    ∷ v6 (0xFF00 ∷ []) 8 ∷ []

abbrev pub lies_in : ℕ → ℕ × ℕ → Bool
lies_in address (first, last) = nat_le first address && nat_le address last

abbrev pub is_reserved_address : List ℕ → Bool
is_reserved_address a =
    ((length a == 4) && list_any (lies_in (from_be_bytes w32 a)) v4_blocks) || ((length a == 16) && list_any (lies_in (from_be_bytes w128 a)) v6_blocks)
