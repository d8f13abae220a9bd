-- Keys by which names are looked up: a name is within a subtree exactly where its key begins with one of the subtree's.
use Rattle.std.specs.Prelude.{ℕ, ◌+◌, ◌==◌, Bool, true, false, List, [], ◌∷◌, ◌++◌, map, reverse, Option, Some, None, if◌then◌else◌}
use Rattle.x509_host.specs.Host.{dot, is_host, is_host_or_wildcard, is_label_octet, lower, star}

-- behind the octets of a host
abbrev pub stop : ℕ
stop = 0

-- octets as symbols, none of which is a stop
abbrev pub symbols : List ℕ → List ℕ
symbols octets = map (λ c. c + 1) octets

-- a host from its end to its front, in lower case
unfoldable pub turned : List ℕ → List ℕ
turned host = symbols (reverse (lower host))

abbrev pub stopped : List ℕ → List ℕ
stopped host = turned host ++ stop ∷ []

-- the key, and none of what has none
abbrev pub key_if : Bool → List ℕ → List ℕ
key_if has key = if has then key else []

abbrev pub host_key : List ℕ → List ℕ
host_key host = key_if (is_host host) (stopped host)

abbrev pub dns_key : List ℕ → List ℕ
dns_key name = key_if (is_host_or_wildcard name) (stopped name)

-- it has no host of its own: it is empty, or has a dot in front
abbrev pub is_open : List ℕ → Bool
is_open [] = true
is_open (c ∷ rest) = c == dot

-- where the keys of the hosts begin that are within the subtree
abbrev pub host_prefix : List ℕ → List ℕ
host_prefix subtree = if is_open subtree then turned subtree else turned subtree ++ stop ∷ []

-- and those of DNS names: of such a host, or of one that ends so behind a dot
abbrev pub dns_prefixes : List ℕ → List (List ℕ)
dns_prefixes subtree = host_prefix subtree ∷ turned (dot ∷ subtree) ∷ []

-- what stands behind the first label and its dot, if it is one; begun says that octets of it stand in front
abbrev pub behind_label : Bool → List ℕ → Option (List ℕ)
behind_label begun [] = None
behind_label begun (c ∷ rest) =
    if c == dot then (if begun then Some rest else None) else (if is_label_octet c then behind_label true rest else None)

-- the key of the wildcard that stands for the subtree's host
abbrev pub wildcard_keys : Option (List ℕ) → List (List ℕ)
wildcard_keys None = []
wildcard_keys (Some rest) = stopped (star ∷ dot ∷ rest) ∷ []

-- where the keys of DNS names begin that stand for one within the subtree
abbrev pub excluded_dns_prefixes : List ℕ → List (List ℕ)
excluded_dns_prefixes subtree = dns_prefixes subtree ++ wildcard_keys (behind_label false subtree)
