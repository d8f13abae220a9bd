-- URIs (RFC 3986), and those of LDAP (RFC 4516).
use Rattle.std.specs.Prelude.{◌&&◌, ◌||◌, ◌==◌, ◌-◌, ◌+◌, ℕ, Bool, true, false, not, nat_le, nat_lt, List, [], ◌∷◌, length, take, codes, Option, Some, None, if◌then◌else◌}
use Rattle.std.specs.Char.{is_ascii_alphabetic, is_ascii_alphanumeric, is_ascii_digit}
use Rattle.std.specs.List.{after_first, before_first, list_all, list_any, slice_get, slice_split}
use Rattle.x509_host.specs.Host.{are_ldh_labels, without_root}
use Rattle.x509_lint.specs.Words.{is_empty, passes}

-- ---- schemes (RFC 3986 3.1)

-- the octets of a scheme: letters, digits, and + - .
abbrev pub is_scheme_octet : ℕ → Bool
is_scheme_octet octet = is_ascii_alphanumeric octet || ((octet == 43) || ((octet == 45) || (octet == 46)))

-- octets of a scheme, a colon, and something behind it
abbrev pub is_absolute_behind : List ℕ → Bool
is_absolute_behind [] = false
is_absolute_behind (octet ∷ octets) = if octet == 58 then not (is_empty octets) else is_scheme_octet octet && is_absolute_behind octets

-- a scheme, which begins with a letter, a colon, and something behind it
abbrev pub is_absolute : List ℕ → Bool
is_absolute [] = false
is_absolute (first ∷ octets) = is_ascii_alphabetic first && is_absolute_behind octets

-- ---- characters (RFC 3986 2)

-- HEXDIG
abbrev pub is_hex_digit : ℕ → Bool
is_hex_digit octet = is_ascii_digit octet || ((nat_le 65 octet && nat_le octet 70) || (nat_le 97 octet && nat_le octet 102))

-- unreserved and sub-delims: letters, digits, and these marks
abbrev pub plain_marks : List ℕ
plain_marks = codes "-._~!$&'()*+,;="

abbrev pub is_plain : ℕ → Bool
is_plain octet = is_ascii_alphanumeric octet || list_any (λ mark. mark == octet) plain_marks

abbrev pub begins_with_hex : List ℕ → Bool
begins_with_hex text = passes is_hex_digit (slice_get text 0) && passes is_hex_digit (slice_get text 1)

-- each octet is one of these, one of the further marks, or a percent sign before two hex digits
abbrev pub is_spelled : List ℕ → List ℕ → Bool
is_spelled marks [] = true
is_spelled marks (octet ∷ octets) =
    (if octet == 37 then begins_with_hex octets else is_plain octet || list_any (λ mark. mark == octet) marks) && is_spelled marks octets

-- ---- parts (RFC 3986 3, appendix B)

abbrev pub contains : ℕ → List ℕ → Bool
contains mark text = list_any (λ octet. octet == mark) text

-- what stands before the first such mark, or the whole where there is none; and behind it, or nothing
abbrev pub before : ℕ → List ℕ → List ℕ
before mark text = before_first (λ octet. octet == mark) text

abbrev pub behind : ℕ → List ℕ → List ℕ
behind mark text = after_first (λ octet. octet == mark) text

-- behind `#`; between `?` and that; between the scheme and these
abbrev pub fragment_of : List ℕ → List ℕ
fragment_of uri = behind 35 uri

abbrev pub query_of : List ℕ → List ℕ
query_of uri = behind 63 (before 35 uri)

abbrev pub hierarchy_of : List ℕ → List ℕ
hierarchy_of uri = behind 58 (before 63 (before 35 uri))

-- an authority and a path: what stands behind `//`
abbrev pub behind_slashes : List ℕ → Option (List ℕ)
behind_slashes [] = None
behind_slashes (a ∷ []) = None
behind_slashes (a ∷ b ∷ octets) = if (a == 47) && (b == 47) then Some octets else None

-- a host and a port: what stands behind `@`, or the whole of an authority without user information
abbrev pub host_and_port : List ℕ → List ℕ
host_and_port authority = if contains 64 authority then behind 64 authority else authority

-- ---- addresses (RFC 3986 3.2.2)

abbrev pub is_between : ℕ → ℕ → ℕ → Bool
is_between least most octet = nat_le least octet && nat_le octet most

-- dec-octet: 0 to 255, without zeros in front
abbrev pub is_decimal_octet : List ℕ → Bool
is_decimal_octet [] = false
is_decimal_octet (a ∷ []) = is_ascii_digit a
is_decimal_octet (a ∷ b ∷ []) = is_between 49 57 a && is_ascii_digit b
is_decimal_octet (a ∷ b ∷ c ∷ []) =
    ((a == 49) && (is_ascii_digit b && is_ascii_digit c)) || (((a == 50) && (is_between 48 52 b && is_ascii_digit c)) || ((a == 50) && ((b == 53) && is_between 48 53 c)))
is_decimal_octet (a ∷ b ∷ c ∷ d ∷ octets) = false

-- four of them between dots
abbrev pub is_ipv4 : List ℕ → Bool
is_ipv4 text = (length (slice_split (λ octet. octet == 46) text) == 4) && list_all is_decimal_octet (slice_split (λ octet. octet == 46) text)

-- h16: 1 to 4 hex digits; or an IPv4 address, which stands for two
abbrev pub is_piece : List ℕ → Bool
is_piece text = (not (is_empty text) && (nat_le (length text) 4 && list_all is_hex_digit text)) || is_ipv4 text

-- pieces between colons, or nothing, and how many they are
abbrev pub are_pieces : List ℕ → Bool
are_pieces text = is_empty text || list_all is_piece (slice_split (λ octet. octet == 58) text)

abbrev pub piece_count : List ℕ → ℕ
piece_count text = if is_empty text then 0 else length (slice_split (λ octet. octet == 58) text)

-- what stands behind the first `::`
abbrev pub behind_gap : List ℕ → Option (List ℕ)
behind_gap [] = None
behind_gap (a ∷ []) = None
behind_gap (a ∷ b ∷ octets) = if (a == 58) && (b == 58) then Some octets else behind_gap (b ∷ octets)

-- and before it
abbrev pub before_gap : List ℕ → List ℕ → List ℕ
before_gap text right = take (length text - length right - 2) text

-- one more where there are dots, which are those of an IPv4 address
abbrev pub further_count : List ℕ → ℕ
further_count text = if contains 46 text then 1 else 0

-- pieces before and behind a gap, fewer than eight
abbrev pub are_fewer : ℕ → List ℕ → List ℕ → Bool
are_fewer further left right = are_pieces left && (are_pieces right && nat_lt (piece_count left + piece_count right + further) 8)

-- eight pieces, or fewer round `::`
abbrev pub are_eight : ℕ → List ℕ → Option (List ℕ) → Bool
are_eight further text None = are_pieces text && (piece_count text + further == 8)
are_eight further text (Some right) = are_fewer further (before_gap text right) right

-- IPv6address; an IPv4 address stands in it at the end alone
abbrev pub is_ipv6 : List ℕ → Bool
is_ipv6 text = not (contains 58 (behind 46 text)) && are_eight (further_count text) text (behind_gap text)

-- IPvFuture behind its v: hex digits, a dot, and unreserved, sub-delims and colons
abbrev pub is_future_behind : List ℕ → Bool
is_future_behind text =
    list_all is_hex_digit (before 46 text) && (not (is_empty (before 46 text))
    && (not (is_empty (behind 46 text)) && list_all (λ octet. is_plain octet || (octet == 58)) (behind 46 text)))

abbrev pub is_future : List ℕ → Bool
is_future [] = false
is_future (first ∷ octets) = ((first == 86) || (first == 118)) && is_future_behind octets

-- what stands in the brackets of an IP-literal
abbrev pub is_literal : List ℕ → Bool
is_literal text = is_ipv6 text || is_future text

-- ---- URIs (RFC 3986 3, appendix A)

-- nothing, or a colon and digits
abbrev pub is_port : List ℕ → Bool
is_port [] = true
is_port (first ∷ octets) = (first == 58) && list_all is_ascii_digit octets

-- an IP-literal in brackets, or a reg-name, and perhaps a port
abbrev pub is_host_and_port : List ℕ → Bool
is_host_and_port [] = true
is_host_and_port (first ∷ octets) =
    if first == 91 then contains 93 octets && (is_literal (before 93 octets) && is_port (behind 93 octets))
    else is_spelled [] (before 58 (first ∷ octets)) && list_all is_ascii_digit (behind 58 (first ∷ octets))

abbrev pub is_authority : List ℕ → Bool
is_authority authority =
    (not (contains 64 authority) || is_spelled (codes ":") (before 64 authority)) && is_host_and_port (host_and_port authority)

-- a path, behind an authority or without one
abbrev pub is_hierarchy : List ℕ → Option (List ℕ) → Bool
is_hierarchy hierarchy None = is_spelled (codes ":@/") hierarchy
is_hierarchy hierarchy (Some octets) = is_authority (before 47 octets) && is_spelled (codes ":@/") (behind 47 octets)

-- an authority and a path, a query, a fragment
abbrev pub are_parts : List ℕ → Bool
are_parts text =
    is_hierarchy (hierarchy_of text) (behind_slashes (hierarchy_of text))
    && (is_spelled (codes ":@/?") (query_of text) && is_spelled (codes ":@/?") (fragment_of text))

-- a scheme with something behind it (RFC 5280 4.2.1.6), and these
abbrev pub is_uri : List ℕ → Bool
is_uri text = is_absolute text && are_parts text

-- a scheme: a letter, and octets of a scheme
abbrev pub is_scheme : List ℕ → Bool
is_scheme [] = false
is_scheme (first ∷ octets) = is_ascii_alphabetic first && list_all is_scheme_octet octets

-- a scheme, a colon, and these; a path may be empty, so nothing need be behind the colon
abbrev pub is_any_uri : List ℕ → Bool
is_any_uri text = contains 58 text && (is_scheme (before 58 text) && are_parts text)

-- ---- hosts (RFC 5280 4.2.1.6)

-- labels with a dot between two, or behind them (RFC 3986 3.2.2), and a letter among them, which addresses have not (RFC 1123 2.1)
abbrev pub is_qualified : List ℕ → Bool
is_qualified text =
    contains 46 text && (are_ldh_labels (without_root text) && (nat_le (length (without_root text)) 253 && list_any is_ascii_alphabetic text))

-- a fully qualified name or an address
abbrev pub is_full_host : List ℕ → Bool
is_full_host [] = false
is_full_host (first ∷ octets) =
    if first == 91 then is_literal (before 93 octets) else is_qualified (before 58 (first ∷ octets)) || is_ipv4 (before 58 (first ∷ octets))

-- an authority whose host is neither
abbrev pub has_other_host : List ℕ → Bool
has_other_host uri = passes (λ octets. not (is_full_host (host_and_port (before 47 octets)))) (behind_slashes (hierarchy_of uri))

-- ---- LDAP URIs (RFC 4516 2)

-- a host that isn't empty, before the port
abbrev pub has_ldap_host : List ℕ → Bool
has_ldap_host uri = passes (λ octets. not (is_empty (before 58 (before 47 octets)))) (behind_slashes (hierarchy_of uri))

-- a dn that isn't empty, behind the slash
abbrev pub has_dn : List ℕ → Bool
has_dn uri = passes (λ octets. not (is_empty (behind 47 octets))) (behind_slashes (hierarchy_of uri))

-- the attributes, between the first two question marks
abbrev pub attributes_of : List ℕ → List ℕ
attributes_of uri = before 63 (query_of uri)

-- descriptions between commas, none of them empty; and one alone
abbrev pub has_attributes : List ℕ → Bool
has_attributes uri = list_all (λ description. not (is_empty description)) (slice_split (λ octet. octet == 44) (attributes_of uri))

abbrev pub has_one_attribute : List ℕ → Bool
has_one_attribute uri = not (is_empty (attributes_of uri)) && not (contains 44 (attributes_of uri))
