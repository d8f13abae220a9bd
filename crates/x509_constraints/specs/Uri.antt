-- The host of a URI (RFC 3986 3), as constraints compare it (RFC 5280 4.2.1.10).
use Rattle.std.specs.Prelude.{ℕ, ◌==◌, ◌&&◌, ◌||◌, not, Bool, false, List, [], ◌∷◌, drop, Option, None, Some, if◌then◌else◌}
use Rattle.std.specs.Char.{is_ascii_alphabetic, is_ascii_alphanumeric, is_ascii_digit}
use Rattle.std.specs.List.{before_first, list_all, list_any, position_or_len}
use Rattle.x509_constraints.specs.Email.{mailbox_of}
use Rattle.x509_constraints.specs.Host.{IsWithinHost}
use Rattle.x509_host.specs.Host.{dot, is_host}

-- a letter, a digit, '+', '-' or '.'
abbrev pub is_scheme_octet : ℕ → Bool
is_scheme_octet c = is_ascii_alphanumeric c || (c == 0x2B || (c == 0x2D || c == 0x2E))

-- '/', '?' or '#'
abbrev pub ends_authority : ℕ → Bool
ends_authority c = c == 0x2F || (c == 0x3F || c == 0x23)

-- what stands behind "://" in front
abbrev pub behind_slashes : List ℕ → Option (List ℕ)
behind_slashes (a ∷ b ∷ c ∷ rest) = if (a == 0x3A) && ((b == 0x2F) && (c == 0x2F)) then Some rest else None
behind_slashes (a ∷ b ∷ []) = None
behind_slashes (a ∷ []) = None
behind_slashes [] = None

abbrev pub begins_with_letter : List ℕ → Bool
begins_with_letter [] = false
begins_with_letter (c ∷ rest) = is_ascii_alphabetic c

-- behind a scheme and "://"
abbrev pub behind_scheme : List ℕ → Option (List ℕ)
behind_scheme uri = if begins_with_letter uri then behind_slashes (drop (position_or_len (λ c. not (is_scheme_octet c)) uri) uri) else None

-- behind the user information, if there is any
abbrev pub behind_user : List ℕ → Option (List ℕ × List ℕ) → List ℕ
behind_user authority None = authority
behind_user authority (Some (user, rest)) = rest

-- without user information and port
abbrev pub host_in : List ℕ → List ℕ
host_in authority = before_first (λ c. c == 0x3A) (behind_user authority (mailbox_of authority))

-- an octet of a dotted quad: no name of a host has such alone (RFC 1123 2.1)
abbrev pub is_digit_or_dot : ℕ → Bool
is_digit_or_dot c = is_ascii_digit c || c == dot

-- a host that is no address; one in brackets is no host
abbrev pub is_named : List ℕ → Bool
is_named host = is_host host && not (list_all is_digit_or_dot host)

-- more labels than one: a fully qualified domain name, as constraints ask of URIs
abbrev pub is_qualified : List ℕ → Bool
is_qualified host = is_named host && list_any (λ c. c == dot) host

abbrev pub host_where : List ℕ → Option (List ℕ)
host_where host = if is_qualified host then Some host else None

abbrev pub host_behind : Option (List ℕ) → Option (List ℕ)
host_behind None = None
host_behind (Some rest) = host_where (host_in (before_first ends_authority rest))

-- the host of the URI, if it has one that is fully qualified and no address
abbrev pub host_of : List ℕ → Option (List ℕ)
host_of uri = host_behind (behind_scheme uri)

abbrev pub IsHostWithin : Option (List ℕ) → List ℕ → Type 0
IsHostWithin None subtree = ⊥
IsHostWithin (Some host) subtree = IsWithinHost host subtree

-- a URI whose host is within the subtree
abbrev pub IsWithinUri : List ℕ → List ℕ → Type 0
IsWithinUri name subtree = IsHostWithin (host_of name) subtree
