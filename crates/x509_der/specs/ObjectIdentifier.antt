-- Content octets as a reader goes over them: which are an object identifier's, and its arcs. The laws of the crate tie
-- both to `content_of`.
use Rattle.std.specs.Prelude.{◌≡◌, ℕ, ◌+◌, ◌-◌, ◌*◌, ◌/◌, ◌≤◌, Bool, true, false, ◌&&◌, not, nat_eq, nat_lt, nat_le, min, List, [], ◌∷◌, ◌++◌, take, drop, replicate, length, if◌then◌else◌}
use Rattle.std.proofs.Common.{arith, length-take}
use Rattle.std.proofs.lemmas.List.{take-append-drop}
use Rattle.x509_der.specs.Arcs.{content_limit}

-- 128 times as much is past the largest subidentifier
abbrev pub high_end : ℕ
high_end = 33554432

-- Whether the octets are whole subidentifiers within the limit, where high is what the octets of the one at hand have said so far, and
-- fresh is whether one begins here.
abbrev pub are_subidentifiers : ℕ → Bool → List ℕ → Bool
are_subidentifiers high fresh [] = fresh
are_subidentifiers high fresh (octet ∷ octets) =
    if nat_lt octet 128 then nat_lt high high_end && are_subidentifiers 0 true octets
    else (not (fresh && nat_eq octet 128) && (nat_lt high high_end && (nat_lt octet 256 && are_subidentifiers (128 * high + (octet - 128)) false octets)))

-- whether the octets are the content of an object identifier: at least one, at most `content_limit`, and whole subidentifiers
abbrev pub is_object_identifier : List ℕ → Bool
is_object_identifier [] = false
is_object_identifier (octet ∷ octets) = nat_le (length (octet ∷ octets)) content_limit && are_subidentifiers 0 true (octet ∷ octets)

-- the subidentifiers in octets, where high is what the octets before have said of the first
abbrev pub subidentifiers_in : ℕ → List ℕ → List ℕ
subidentifiers_in high [] = []
subidentifiers_in high (octet ∷ octets) =
    if nat_lt octet 128 then (128 * high + octet) ∷ subidentifiers_in 0 octets
    else subidentifiers_in (128 * high + (octet - 128)) octets

-- the first arc that a first subidentifier stands for
abbrev pub first_arc : ℕ → ℕ
first_arc n = min (n / 40) 2

-- the arcs that subidentifiers stand for
abbrev pub arcs_from : List ℕ → List ℕ
arcs_from [] = []
arcs_from (n ∷ ns) = first_arc n ∷ (n - 40 * first_arc n) ∷ ns

-- the arcs of the object identifier that has this content
unfoldable pub arcs_of : List ℕ → List ℕ
arcs_of content = arcs_from (subidentifiers_in 0 content)

-- what an object identifier keeps: how many octets it has, the octets, and zeros up to 39
pub record IsStored (len : ℕ) (octets : List ℕ) : Type 0 where
  pub bound : len ≤ 39
  pub room : length octets ≡ 39
  pub zeros : drop len octets ≡ replicate (39 - len) 0
  pub content : is_object_identifier (take len octets) ≡ true

pub front_length : (n : ℕ) (xs : List ℕ) → IsStored n xs → length (take n xs) ≡ n
front_length n xs h = omega (arith, length-take n xs)

pub padded : (n : ℕ) (xs : List ℕ) → IsStored n xs → take n xs ++ replicate (39 - length (take n xs)) 0 ≡ xs
padded n xs h = let e = h.zeros in rw (front_length n xs h, ← e) (take-append-drop n xs)
