-- IP addresses as texts (RFC 791; RFC 4291 2.2; in brackets RFC 3986 3.2.2), and their octets in the order of the network.
use Rattle.std.specs.Prelude.{◌≡◌, ◌⊎◌, ℕ, List, [], ◌∷◌, ◌++◌}
use Rattle.std.specs.Net.Addr.{ipv4_octets, ipv6_octets}
use Rattle.std.specs.Net.Grammar as grammar
use Rattle.std.specs.declared.net.ip_addr.IpAddr.{IpAddr}
use Rattle.std.specs.declared.net.ip_addr.IpAddr.TheVariants as ip
use Rattle.std.specs.declared.net.ipv6_addr.Ipv6Addr.{Ipv6Addr}

-- four octets, or 16
abbrev pub ip_octets : IpAddr → List ℕ
ip_octets (ip.V4 a) = ipv4_octets a
ip_octets (ip.V6 a) = ipv6_octets a

-- Four decimal numbers without leading zeros, with dots between them; or eight groups of hex digits with colons between them, where
-- `::` may stand for zeros and the last two groups may be an IPv4 address.
abbrev pub IsIpText : List ℕ → List ℕ → Type 0
IsIpText text octets = (a : IpAddr) × grammar.IsIpText text a × (octets ≡ ip_octets a)

-- an IPv6 address in brackets
abbrev pub IsBracketed : List ℕ → List ℕ → Type 0
IsBracketed text octets = (inner : List ℕ) × (a : Ipv6Addr) × (text ≡ 0x5B ∷ (inner ++ 0x5D ∷ [])) × grammar.IsIpv6Text inner a × (octets ≡ ipv6_octets a)

abbrev pub IsAddressText : List ℕ → List ℕ → Type 0
IsAddressText text octets = IsIpText text octets ⊎ IsBracketed text octets
