-- Hosts within subtrees: those of DNS names, of e-mail addresses and of URIs (RFC 5280 4.2.1.10).
use Rattle.std.specs.Prelude.{◌≡◌, ◌⊎◌, ℕ, true, List, [], ◌∷◌, ◌++◌}
use Rattle.x509_host.specs.Host.{IsSame, StandsFor, dot, is_host, is_host_or_wildcard, lower}

-- the host ends with these octets, without regard to ASCII case
abbrev pub EndsWith : List ℕ → List ℕ → Type 0
EndsWith host end = (front : List ℕ) × (lower host ≡ front ++ lower end)

-- it has a dot in front
abbrev pub IsDotted : List ℕ → Type 0
IsDotted subtree = (rest : List ℕ) × (subtree ≡ dot ∷ rest)

-- the host is that of the subtree, or the subtree has a dot in front and the host ends so
abbrev pub IsHostOf : List ℕ → List ℕ → Type 0
IsHostOf host subtree = IsSame host subtree ⊎ (IsDotted subtree × EndsWith host subtree)

-- A host of an e-mail address or a URI: an empty subtree has all, one with a dot in front those below it, any other that host alone.
-- What is no host is within an empty subtree alone.
abbrev pub IsWithinHost : List ℕ → List ℕ → Type 0
IsWithinHost host subtree = (subtree ≡ []) ⊎ ((is_host host ≡ true) × IsHostOf host subtree)

-- A DNS name: as a host, or with whole labels in front of the subtree.
abbrev pub IsWithinDns : List ℕ → List ℕ → Type 0
IsWithinDns name subtree = (subtree ≡ []) ⊎ ((is_host_or_wildcard name ≡ true) × (IsHostOf name subtree ⊎ EndsWith name (dot ∷ subtree)))

-- A DNS name under exclusion: some name that it stands for is within the subtree.
abbrev pub IsOneWithinDns : List ℕ → List ℕ → Type 0
IsOneWithinDns name subtree = (host : List ℕ) × StandsFor name host × IsWithinDns host subtree
