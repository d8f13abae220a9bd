-- Names of hosts (RFC 1034 3.5, RFC 1123 2.1), in three ways, widest first: hosts are what is compared under name constraints, DNS names what a peer
-- is named by (RFC 9525 2), and preferred names what a certificate is to have (RFC 5280 4.2.1.6).
use Rattle.std.specs.Prelude.{◌≡◌, ◌≤◌, ◌⊎◌, ◌&&◌, ◌||◌, ◌==◌, ◌-◌, ◌++◌, ℕ, Bool, true, false, not, nat_le, List, [], ◌∷◌, length, map, take, Option, None, Some, if◌then◌else◌}
use Rattle.std.specs.Char.{is_ascii_alphanumeric, is_ascii_digit, to_ascii_lowercase}
use Rattle.std.specs.List.{last_or, list_all, slice_get, slice_split}
use Rattle.x509_host.specs.declared.labels.LabelOctets.{LabelOctets}
use Rattle.x509_host.specs.declared.labels.LabelOctets.TheVariants.{Ldh, LdhAndUnderscore}

-- ---- octets

-- '.'
abbrev pub dot : ℕ
dot = 0x2E

-- '-'
abbrev pub hyphen : ℕ
hyphen = 0x2D

-- '_'
abbrev pub underscore : ℕ
underscore = 0x5F

-- '*'
abbrev pub star : ℕ
star = 0x2A

-- a letter, a digit or '-' (RFC 1034 3.5, RFC 1123 2.1)
abbrev pub is_ldh_octet : ℕ → Bool
is_ldh_octet c = is_ascii_alphanumeric c || c == hyphen

-- or '_', which stands in names that are in use
abbrev pub is_label_octet : ℕ → Bool
is_label_octet c = is_ldh_octet c || c == underscore

abbrev pub octets_of : LabelOctets → ℕ → Bool
octets_of Ldh = is_ldh_octet
octets_of LdhAndUnderscore = is_label_octet

-- ---- labels

-- what stands between the dots
abbrev pub labels_of : List ℕ → List (List ℕ)
labels_of name = slice_split (λ c. c == dot) name

-- one that a label of these octets may begin or end with: any but '-' (RFC 1034 3.5)
abbrev pub is_end : (ℕ → Bool) → Option ℕ → Bool
is_end is_octet None = false
is_end is_octet (Some c) = is_octet c && not (c == hyphen)

-- 1 to 63 of these octets (RFC 1035 2.3.4), of which neither the first nor the last is '-'
abbrev pub is_label_of : (ℕ → Bool) → List ℕ → Bool
is_label_of is_octet label =
    list_all is_octet label && nat_le (length label) 63 && is_end is_octet (slice_get label 0) && is_end is_octet (slice_get label (length label - 1))

-- of a host: of any length but 0, with a '-' anywhere
abbrev pub is_label : List ℕ → Bool
is_label [] = false
is_label (c ∷ rest) = list_all is_label_octet (c ∷ rest)

-- of a DNS name
abbrev pub is_dns_label : List ℕ → Bool
is_dns_label label = is_label_of is_label_octet label

-- of a preferred name (an LDH label: RFC 5890 2.3.1)
abbrev pub is_ldh_label : List ℕ → Bool
is_ldh_label label = is_label_of is_ldh_octet label

-- a label that is digits alone
abbrev pub is_number : Option (List ℕ) → Bool
is_number None = false
is_number (Some label) = list_all is_ascii_digit label

-- what stands behind the first dot, if there is one
abbrev pub behind_label : List ℕ → Option (List ℕ)
behind_label [] = None
behind_label (c ∷ rest) = if c == dot then Some rest else behind_label rest

-- ---- names

-- labels with dots between them
abbrev pub is_host : List ℕ → Bool
is_host host = list_all is_label (labels_of host)

-- In all 253 octets at most. The last label isn't digits alone, so that no name is an IPv4 address (RFC 1123 2.1).
abbrev pub is_dns_name : List ℕ → Bool
is_dns_name name = list_all is_dns_label (labels_of name) && nat_le (length name) 253 && not (is_number (last_or None (labels_of name)))

-- labels of a preferred name, and of the domains and hosts that a certificate has in other names
abbrev pub are_ldh_labels : List ℕ → Bool
are_ldh_labels text = list_all is_ldh_label (labels_of text)

abbrev pub is_dot : Option ℕ → Bool
is_dot None = false
is_dot (Some c) = c == dot

-- without the dot at the end, which stands in front of the root's label (RFC 1034 3.1)
abbrev pub without_root : List ℕ → List ℕ
without_root text = if is_dot (slice_get text (length text - 1)) then take (length text - 1) text else text

-- ---- without regard to ASCII case (RFC 4343)

abbrev pub lower : List ℕ → List ℕ
lower octets = map to_ascii_lowercase octets

abbrev pub IsSame : List ℕ → List ℕ → Type 0
IsSame a b = lower a ≡ lower b

-- ---- wildcards, '*' in the place of the left-most label

-- what a wildcard stands in front of, and else the whole
abbrev pub behind_wildcard : List ℕ → List ℕ
behind_wildcard (c ∷ d ∷ rest) = if (c == star) && (d == dot) then rest else c ∷ d ∷ rest
behind_wildcard (c ∷ []) = c ∷ []
behind_wildcard [] = []

-- under name constraints: a host, or a host behind a wildcard
abbrev pub is_host_or_wildcard : List ℕ → Bool
is_host_or_wildcard name = is_host (behind_wildcard name)

-- itself, or where it is a wildcard a host with one label in its place (RFC 6125 6.4.3)
abbrev pub StandsFor : List ℕ → List ℕ → Type 0
StandsFor name host = (host ≡ name)
    ⊎ ((label : List ℕ) × (rest : List ℕ) × (is_label label ≡ true) × (name ≡ star ∷ dot ∷ rest) × (host ≡ label ++ dot ∷ rest))

-- in names of peers: the labels of a DNS name behind it, of which there are two or more
abbrev pub IsWildcardBefore : List ℕ → List ℕ → Type 0
IsWildcardBefore pattern labels = (pattern ≡ star ∷ dot ∷ labels) × (is_dns_name labels ≡ true) × (2 ≤ length (labels_of labels))

-- it stands for one whole label (RFC 9525 6.3)
abbrev pub IsWildcardOf : List ℕ → List ℕ → Type 0
IsWildcardOf pattern host =
    (labels : List ℕ) × (first : List ℕ) × (others : List ℕ)
    × IsWildcardBefore pattern labels × (host ≡ first ++ dot ∷ others) × (is_dns_label first ≡ true) × IsSame labels others

-- in certificates: a preferred name, perhaps behind a wildcard, which RFC 5280 4.2.1.6 leaves to applications; 253 octets at most
abbrev pub is_preferred_name : List ℕ → Bool
is_preferred_name text = are_ldh_labels (behind_wildcard text) && nat_le (length text) 253
